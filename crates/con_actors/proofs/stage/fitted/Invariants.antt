-- The clients so far.
use Rattle.std.proofs.Common.{◌≡◌, ℕ, ◌-◌, ◌≤◌, List, length}
use Rattle.con_actors.specs.Held.{AreFresh}
use Rattle.con_actors.proofs.stage.fitted.Given as goal

abbrev pub invariant-loop-alloc : goal.invariant-loop-alloc
invariant-loop-alloc g l = record {
  fresh : (racks : List (List ℕ))
      → length racks ≡ length l.fn.seats.items → AreFresh (λ x. (goal.CtrlHandler-dyn g (x.vtable, x.value)).memory x.value) racks 0 l.fn.seats.items
      → AreFresh (λ x. (goal.CtrlHandler-dyn g (x.vtable, x.value)).memory x.value) racks 0 l.all.items;
  more : length l.fn.seats.items ≤ length l.all.items;
}

abbrev pub decreases-loop-alloc : goal.decreases-loop-alloc
decreases-loop-alloc g l = l.count - length l.all.items

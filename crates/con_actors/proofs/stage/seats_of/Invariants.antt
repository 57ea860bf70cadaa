-- The clients of the racks so far.
use Rattle.std.proofs.Common.{◌≡◌, ◌+◌, drop, length, map}
use Rattle.std.specs.Vec.Iter.{into_iter_items, into_iter_len}
use Rattle.con_actors.specs.Held.{AreFresh}
use Rattle.con_actors.specs.Worker.{told_kind}
use Rattle.con_actors.proofs.stage.seats_of.Given as goal

abbrev pub invariant-loop-rack : goal.invariant-loop-rack
invariant-loop-rack g l = record {
  fresh : AreFresh (λ x. (goal.CtrlHandler-dyn g (x.vtable, x.value)).memory x.value)
      (map (λ rack. map (λ x. told_kind ((goal.CtrlHandler-dyn g (x.vtable, x.value)).memory x.value)) rack.items) l.fn.racks.items) 0 l.seats.items;
  count : length l.seats.items + into_iter_len l.rack-iterator ≡ length l.fn.racks.items;
  rest : into_iter_items l.rack-iterator ≡ drop (length l.seats.items) l.fn.racks.items;
}

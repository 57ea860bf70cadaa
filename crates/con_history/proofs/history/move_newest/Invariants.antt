use Rattle.std.proofs.Common.{◌≡◌, ◌≤◌, ◌-◌, length, take, drop}
use Rattle.con_history.specs.Histories.{newest}
use Rattle.con_history.proofs.history.move_newest.Given as goal

abbrev pub invariant-loop-oldest : goal.invariant-loop-oldest
invariant-loop-oldest l =
    let n = length l.fn.from.items - length l.from.items in
    (l.from.items ≡ drop n l.fn.from.items) × (length l.from.items ≤ length l.fn.from.items) × (l.to.items ≡ newest l.fn.to.capacity (take n l.fn.from.items)) × (l.to.capacity ≡ l.fn.to.capacity)

abbrev pub decreases-loop-oldest : goal.decreases-loop-oldest
decreases-loop-oldest l = length l.from.items

-- The numbers so far are free.
use Rattle.std.proofs.Common.{◌≤◌, ◌-◌}
use Rattle.con_handles.specs.Places.{listed}
use Rattle.con_handles.proofs.Listed.{NoneBelow}
use Rattle.con_handles.proofs.places.least.Given as goal

abbrev pub invariant-loop-number : goal.invariant-loop-number
invariant-loop-number l = record { none : NoneBelow (listed 0 l.places) l.process l.number; low : 1 ≤ l.number }

abbrev pub decreases-loop-number : goal.decreases-loop-number
decreases-loop-number l = 65 - l.number

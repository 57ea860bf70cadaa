-- The search goes on from this number.
use Rattle.std.proofs.Common.{◌≡◌, ◌≤◌, ◌-◌}
use Rattle.con_handles.specs.Handles.{free_from}
use Rattle.con_handles.specs.Words.Handles.{least_free}
use Rattle.con_handles.specs.Places.{listed}
use Rattle.con_handles.proofs.places.first_free.Given as goal

abbrev pub invariant-loop-number : goal.invariant-loop-number
invariant-loop-number l = record { same : free_from (listed 0 l.places) l.process l.number (65 - l.number) ≡ least_free (listed 0 l.places) l.process; low : 1 ≤ l.number; high : l.number ≤ 65 }

abbrev pub decreases-loop-number : goal.decreases-loop-number
decreases-loop-number l = 65 - l.number

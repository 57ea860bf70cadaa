-- Empty places were put last.
use Rattle.std.proofs.Common.{◌≡◌, ◌≤◌, ◌-◌, vec_len, vec_capacity}
use Rattle.con_handles.specs.Places.{listed}
use Rattle.con_handles.proofs.places.fill.Given as goal

abbrev pub invariant-loop-places : goal.invariant-loop-places
invariant-loop-places l = record { same : listed 0 l.places.items ≡ listed 0 l.fn.places.items; room : 16384 ≤ vec_capacity l.places; less : vec_len l.fn.places ≤ vec_len l.places; most : vec_len l.places ≤ 16384 }

abbrev pub decreases-loop-places : goal.decreases-loop-places
decreases-loop-places l = 16384 - vec_len l.places

use Rattle.std.proofs.Common.{◌≡◌, ◌≤◌, vec_len, vec_capacity}
use Rattle.std.specs.Prelude.{replicate}
use Rattle.con_procs.specs.declared.rack.Place.TheVariants.{Fresh}
use Rattle.con_procs.proofs.rack.Rack.new.Given as goal

abbrev pub invariant-loop-i : goal.invariant-loop-i
invariant-loop-i l = record { places : l.places.items ≡ replicate l.i Fresh; len : vec_len l.places ≡ l.i; room : l.count ≤ vec_capacity l.places }

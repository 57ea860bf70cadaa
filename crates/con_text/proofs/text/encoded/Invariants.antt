use Rattle.std.proofs.Common.{◌≡◌, drop, ◌++◌}
use Rattle.std.specs.Prelude.{flat_map}
use Rattle.con_text.specs.Encoded.{unit_bytes}
use Rattle.con_text.proofs.text.encoded.Given as goal

abbrev pub invariant-loop-unit : goal.invariant-loop-unit
invariant-loop-unit l = l.out.items ++ flat_map unit_bytes (drop l.unit-index l.units) ≡ flat_map unit_bytes l.units

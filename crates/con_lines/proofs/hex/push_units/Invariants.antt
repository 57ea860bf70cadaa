use Rattle.std.proofs.Common.{◌≡◌, ◌++◌, drop}
use Rattle.con_lines.specs.Hex.{hex_units}
use Rattle.con_lines.proofs.hex.push_units.Given as goal

abbrev pub invariant-loop-unit : goal.invariant-loop-unit
invariant-loop-unit l = l.out.items ++ hex_units (drop l.unit-index l.units) ≡ l.initial.out.items ++ hex_units l.units

use Rattle.std.proofs.Common.{◌≡◌, ◌≤◌, length, map, take, vec_capacity}
use Rattle.con_units.specs.Attr.{plain}
use Rattle.con_units.specs.Glyph.{cell_of}
use Rattle.con_machine.proofs.calls.cell_calls.cells_in_one.Given as goal

abbrev pub invariant-loop-unit : goal.invariant-loop-unit
invariant-loop-unit l = (l.room.items ≡ map (λ u. cell_of u (plain l.word)) (take l.unit-index l.units)) × (length l.units ≤ vec_capacity l.room) × (l.attr ≡ plain l.word)

use Rattle.std.proofs.Common.{◌≡◌, take, replicate}
use Rattle.con_units.specs.Glyph.{blank_cell}
use Rattle.con_mirror.proofs.part.are_blank.Given as goal

abbrev pub invariant-loop-x : goal.invariant-loop-x
invariant-loop-x l = take l.x l.cells ≡ replicate l.x blank_cell

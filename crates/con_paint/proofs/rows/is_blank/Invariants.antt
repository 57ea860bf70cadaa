-- The cells so far.
use Rattle.std.proofs.Common.{◌≡◌, take, replicate}
use Rattle.con_units.specs.Glyph.{blank_cell}
use Rattle.con_paint.proofs.rows.is_blank.Given as goal

abbrev pub invariant-loop-i : goal.invariant-loop-i
invariant-loop-i l = take l.i l.row ≡ replicate l.i blank_cell

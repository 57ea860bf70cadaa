-- The cells so far.
use Rattle.std.proofs.Common.{◌≡◌, take, drop, replicate}
use Rattle.con_units.specs.Glyph.{blank_cell}
use Rattle.con_paint.proofs.columns.blanks_from.Given as goal

abbrev pub invariant-loop-n : goal.invariant-loop-n
invariant-loop-n l = take l.n (drop l.x l.row) ≡ replicate l.n blank_cell

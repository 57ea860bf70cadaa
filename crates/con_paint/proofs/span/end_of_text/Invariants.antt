-- The last cells.
use Rattle.std.proofs.Common.{◌≡◌, ◌-◌, drop, length, replicate}
use Rattle.con_units.specs.Glyph.{blank_cell}
use Rattle.con_paint.proofs.span.end_of_text.Given as goal

abbrev pub invariant-loop-k : goal.invariant-loop-k
invariant-loop-k l = drop (length l.row - l.k) l.row ≡ replicate l.k blank_cell

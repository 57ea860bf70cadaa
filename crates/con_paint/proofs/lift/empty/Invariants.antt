-- The cells so far are blank.
use Rattle.std.proofs.Common.{◌≡◌, ◌++◌, drop, replicate}
use Rattle.con_units.specs.Glyph.{blank_cell}
use Rattle.con_paint.proofs.lift.empty.Given as goal

abbrev pub invariant-loop-i : goal.invariant-loop-i
invariant-loop-i l = l.cells ≡ replicate l.i blank_cell ++ drop l.i l.fn.cells

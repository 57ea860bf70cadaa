-- The cells so far.
use Rattle.std.proofs.Common.{◌≡◌, take, true}
use Rattle.con_strokes.specs.Compared.{same_cells}
use Rattle.con_strokes.proofs.cells.same.Given as goal

abbrev pub invariant-loop-i : goal.invariant-loop-i
invariant-loop-i l = same_cells (take l.i l.a) (take l.i l.b) ≡ true

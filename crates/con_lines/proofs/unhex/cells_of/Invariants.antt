use Rattle.std.proofs.Common.{◌≡◌, length}
use Rattle.con_values.specs.Cursors.{with_front}
use Rattle.con_lines.specs.Told.{cells_from}
use Rattle.con_lines.proofs.unhex.cells_of.Given as goal

abbrev pub invariant-loop-rest : goal.invariant-loop-rest
invariant-loop-rest l = with_front l.cells.items (cells_from l.rest) ≡ cells_from l.units

abbrev pub decreases-loop-rest : goal.decreases-loop-rest
decreases-loop-rest l = length l.rest

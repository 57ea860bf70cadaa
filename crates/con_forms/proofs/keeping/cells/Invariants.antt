use Rattle.std.proofs.Common.{length}
use Rattle.con_events.specs.Fits.{AreUnits}
use Rattle.con_lines.specs.Shown.{cell_words}
use Rattle.con_forms.specs.Kept.{AreCells}
use Rattle.con_forms.proofs.keeping.cells.Given as goal

abbrev pub invariant-loop-rest : goal.invariant-loop-rest
invariant-loop-rest l = record {
  units : AreUnits (cell_words l.rest) → AreUnits (cell_words l.coming);
  cells : AreCells l.rest → AreCells l.coming;
}

abbrev pub decreases-loop-rest : goal.decreases-loop-rest
decreases-loop-rest l = length l.rest

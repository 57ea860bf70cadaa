use Rattle.con_events.specs.Fits.{AreUnits}
use Rattle.con_lines.specs.Shown.{cell_words}
use Rattle.con_forms.specs.Kept.{AreCells}
use Rattle.con_forms.proofs.Rests.{one_more}
use Rattle.con_forms.proofs.keeping.cells.Goals as goal

pub loop-rest-preserved : goal.loop-rest-preserved
loop-rest-preserved c = record {
  units = one_more (λ gs. AreUnits (cell_words gs)) c.loop-rest.rest.now c.one-item.result c.in-len1-up.len_at_least c.one-item.is
      (λ ys q. (c.cell.ensures.unit, (c.cell.ensures.word, q))) c.loop-rest.invariant.units;
  cells = one_more AreCells c.loop-rest.rest.now c.one-item.result c.in-len1-up.len_at_least c.one-item.is
      (λ ys q. (c.cell.ensures.stored, c.cell.ensures.masked, q)) c.loop-rest.invariant.cells;
}

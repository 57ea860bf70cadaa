-- SGR, or another item.
use Rattle.con_audit.proofs.MarkLemmas.{mark_sgr, mark_other}
use Rattle.std.proofs.Common.{◌∙◌, sym}
use Rattle.con_audit.proofs.marking.mark.Goals as goal

pub returns-then-is_sgr : goal.returns-then-is_sgr
returns-then-is_sgr c = λ s len tied. mark_sgr s _ _ c.args.flags c.args.found c.args.unit c.args.csi.now tied (sym (c.is_sgr.ensures c.args.unit) ∙ c.if-is_sgr.true) c.mark_pen.ensures

pub returns-else-is_sgr : goal.returns-else-is_sgr
returns-else-is_sgr c = λ s len tied. mark_other s _ _ c.args.flags _ len tied (sym (c.is_sgr.ensures c.args.unit) ∙ c.if-is_sgr.false) c.mark_cells.ensures

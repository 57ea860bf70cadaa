-- A pen, and then the unit.
use Rattle.std.proofs.Common.{refl}
use Rattle.con_strokes.specs.Ink.{pen_for}
use Rattle.con_strokes.proofs.LeadLemmas.{leads_then}
use Rattle.con_strokes.proofs.cells.cell.Goals as goal

pub returns-clause-leads : goal.returns-clause-leads
returns-clause-leads c = λ s h. leads_then _ _ _ s (record s { pen = pen_for c.args.attr }) _ 0 1 1 (c.choose.ensures.leads s h) (c.print.ensures.leads (record s { pen = pen_for c.args.attr })) refl

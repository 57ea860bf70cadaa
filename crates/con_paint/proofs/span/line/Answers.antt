-- The columns, and the end of the row.
use Rattle.std.proofs.Common.{refl}
use Rattle.con_paint.proofs.SpanLemmas.{lined}
use Rattle.con_paint.proofs.span.line.Goals as goal

pub returns-clause-painted : goal.returns-clause-painted
returns-clause-painted c = λ h s st at lt seen front whole. lined _ h c.args.y c.args.before c.columns-state.result c.erase_if.result c.args.row.now c.args.span _ _ _ s refl st lt c.requires.inside front whole (c.columns-state.ensures.columns h s st at lt seen front) c.erase_if.ensures.end

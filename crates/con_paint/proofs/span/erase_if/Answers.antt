-- A place, a plain pen, and then the end of the row.
use Rattle.con_paint.proofs.SpanLemmas.{row_ended}
use Rattle.con_paint.proofs.span.erase_if.Goals as goal

pub returns-clause-end : goal.returns-clause-end
returns-clause-end c = row_ended c.args.erase c.args.x c.args.y c.args.before c.plain_attr-attr.result _ _ _ _ c.if-not-erase.false c.plain_attr-attr.ensures c.go.ensures.leads (rw c.plain_attr-attr.ensures at c.choose.ensures.leads) c.erase_row.ensures.leads

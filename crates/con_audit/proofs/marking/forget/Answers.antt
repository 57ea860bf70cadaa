-- A shade, a lift of all rows, and the pen back.
use Rattle.con_audit.proofs.MarkLemmas.{forgot_known, forgot_unknown}
use Rattle.con_audit.proofs.marking.forget.Goals as goal

pub returns-then-pen : goal.returns-then-pen
returns-then-pen c = forgot_known c.args.marks.now _ _ _ _ _ _ c.args.pen c.if-pen.true c.requires c.is_page.ensures c.shade.ensures c.lift.ensures c.apply.ensures c.apply-2.ensures c.plain.ensures c.apply-then-pen.ensures

pub returns-else-pen : goal.returns-else-pen
returns-else-pen c = forgot_unknown c.args.marks.now _ _ _ _ c.args.pen c.if-pen.false c.requires c.is_page.ensures c.shade.ensures c.lift.ensures c.apply.ensures c.apply-2.ensures

-- What is not changed is the same.
use Rattle.con_strokes.proofs.PenLemmas.{enough_on, enough_anew}
use Rattle.con_strokes.proofs.pen.changes_of.Goals as goal

pub returns-then-is_shorter : goal.returns-then-is_shorter
returns-then-is_shorter c = let d = c.differences-on.ensures in enough_on c.differences-on.result c.args.before c.args.attr d.reset d.bold d.underline d.negative d.foreground d.background (c.is_shorter.ensures c.if-is_shorter.true)

pub returns-else-is_shorter : goal.returns-else-is_shorter
returns-else-is_shorter c = let d = c.differences-anew.ensures in enough_anew c.differences-anew.result c.args.before c.args.attr d.reset (rw c.plain_attr.ensures at d.bold) (rw c.plain_attr.ensures at d.underline) (rw c.plain_attr.ensures at d.negative) (rw c.plain_attr.ensures at d.foreground) (rw c.plain_attr.ensures at d.background)

-- A plain pen, and then the lift.
use Rattle.con_units.specs.Attr.{plain}
use Rattle.con_strokes.specs.Ink.{pen_for}
use Rattle.con_paint.proofs.LiftLemmas.{scrolls}
use Rattle.con_paint.proofs.lift.scroll.Goals as goal

pub returns-clause-lifted : goal.returns-clause-lifted
returns-clause-lifted c = λ s ew eh less p at. scrolls _ _ _ s c.args.by c.args.size.w c.args.size.h c.rise-after.result ew eh less c.requires.few.2 ((rw c.plain_attr.ensures at c.choose.ensures.leads) s p) (c.rise-after.ensures.rises (record s { pen = pen_for (plain 7) }) eh (record { at = at.at }))

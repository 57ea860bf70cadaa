-- A lift, or known ground.
use Rattle.con_paint.proofs.LiftLemmas.{begun}
use Rattle.con_paint.proofs.lift.begin.Goals as goal

pub returns-else-known-clause-lifts : goal.returns-else-known-clause-lifts
returns-else-known-clause-lifts c = rw (c.if-known.false, c.stay.ensures, c.plain_attr.ensures) (begun c.args.size.w c.args.size.h c.args.cells.now c.args.shadow.now.items c.args.at c.args.before c.args.out.now.items c.ground.new.out.items c.requires.lengths.1 c.ground.ensures.leads)

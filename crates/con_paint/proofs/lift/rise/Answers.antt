-- A new row, or one sequence.
use Rattle.con_paint.proofs.LiftLemmas.{adds_row}
use Rattle.con_paint.proofs.lift.rise.Goals as goal

pub returns-then-at-size-clause-rises : goal.returns-then-at-size-clause-rises
returns-then-at-size-clause-rises c = λ s eh is. adds_row _ _ s c.args.at c.args.by c.args.size.h eh is c.if-at.true c.if-at-size.true c.if-by-eq1.true c.requires.few.1 (c.new_row.ensures.leads s)

pub returns-clause-rises : goal.returns-clause-rises
returns-clause-rises c = λ s eh is. record { x = s.x; leads = c.up.ensures.leads s; inside = λ lt. lt; place = record { at = is.at } }

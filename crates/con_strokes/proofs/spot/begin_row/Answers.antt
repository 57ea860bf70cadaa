-- Controls.
use Rattle.std.proofs.Common.{arith}
use Rattle.con_strokes.proofs.SpotLemmas.{below}
use Rattle.con_strokes.proofs.spot.begin_row.Goals as goal

pub returns-then-y-at-eq1-clause-leads : goal.returns-then-y-at-eq1-clause-leads
returns-then-y-at-eq1-clause-leads c = λ s inside at. below _ _ s c.args.at c.args.y 1 at c.requires.known (omega (arith, c.if-y-at-eq1.true, c.requires.below.0)) inside (c.next_row.ensures.leads s)

pub returns-else-y-at-eq1-clause-leads : goal.returns-else-y-at-eq1-clause-leads
returns-else-y-at-eq1-clause-leads c = λ s inside at. below _ _ s c.args.at c.args.y 2 at c.requires.known (omega (arith, c.if-y-at-eq1.false, c.requires.below.0, c.requires.below.1)) inside (c.second_row.ensures.leads s)

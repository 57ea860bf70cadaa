-- One sequence, or none.
use Rattle.std.proofs.Common.{arith}
use Rattle.con_strokes.proofs.SpotLemmas.{descends, ascends, remains}
use Rattle.con_strokes.proofs.spot.go_straight.Goals as goal

pub returns-then-at-y-clause-leads : goal.returns-then-at-y-clause-leads
returns-then-at-y-clause-leads c = λ s inside at. descends _ _ s c.args.at c.args.y at c.requires.known c.if-at-y.true inside (c.down.ensures.leads s)

pub returns-then-y-at-clause-leads : goal.returns-then-y-at-clause-leads
returns-then-y-at-clause-leads c = λ s inside at. ascends _ _ s c.args.at c.args.y at c.requires.known c.if-y-at.true (c.above.ensures.leads s)

pub returns-else-y-at-clause-leads : goal.returns-else-y-at-clause-leads
returns-else-y-at-clause-leads c = λ s inside at. remains _ s c.args.at c.args.y at c.requires.known (omega (arith, c.if-at-y.false, c.if-y-at.false))

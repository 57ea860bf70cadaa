-- One sequence, some controls, or none.
use Rattle.std.proofs.Common.{arith}
use Rattle.con_strokes.proofs.SpotLemmas.{there, back, onward}
use Rattle.con_strokes.proofs.spot.go_in_row.Goals as goal

pub returns-then-at-x-clause-leads : goal.returns-then-at-x-clause-leads
returns-then-at-x-clause-leads c = λ s inside at. there _ s c.args.at c.args.x c.args.y at c.requires.known c.if-at-x.true c.requires.row

pub returns-then-at-x-2-clause-leads : goal.returns-then-at-x-2-clause-leads
returns-then-at-x-2-clause-leads c = λ s inside at. onward _ _ s c.args.at c.args.x c.args.y at c.requires.known c.requires.row c.if-at-x-2.true inside (c.right.ensures.leads s)

pub returns-else-at-x-2-clause-leads : goal.returns-else-at-x-2-clause-leads
returns-else-at-x-2-clause-leads c = λ s inside at. back _ _ s c.args.at c.args.x c.args.y at c.requires.known c.requires.row (omega (arith, c.if-at-x-2.false)) (c.go_back.ensures.leads s)

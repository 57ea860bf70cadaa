-- One sequence, or what a row or another one needs.
use Rattle.con_strokes.proofs.SpotLemmas.{gone}
use Rattle.con_strokes.proofs.spot.move_to.Goals as goal

pub returns-then-not-at-clause-leads : goal.returns-then-not-at-clause-leads
returns-then-not-at-clause-leads c = λ s inside at. gone _ _ s c.args.x c.args.y inside (c.go_to.ensures.leads s)

pub returns-then-at-ge999-clause-leads : goal.returns-then-at-ge999-clause-leads
returns-then-at-ge999-clause-leads c = λ s inside at. gone _ _ s c.args.x c.args.y inside (c.go_to-then-at-ge999.ensures.leads s)

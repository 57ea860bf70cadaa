-- Nothing, or a move.
use Rattle.con_strokes.proofs.SpotLemmas.{there}
use Rattle.con_strokes.proofs.spot.go.Goals as goal

pub returns-then-is_there-clause-leads : goal.returns-then-is_there-clause-leads
returns-then-is_there-clause-leads c = λ s inside at. let k = c.is_there.ensures.there c.if-is_there.true in there _ s c.args.at c.args.x c.args.y at k.0 k.1 k.2

pub returns-clause-quiet : goal.returns-clause-quiet
returns-clause-quiet c = λ k ex ey. absurd (c.is_there.ensures.elsewhere c.if-is_there.false k ex ey)

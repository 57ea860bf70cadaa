-- Two controls, or one sequence.
use Rattle.con_strokes.proofs.SpotLemmas.{goes_left_by, goes_back_twice}
use Rattle.con_strokes.proofs.spot.go_back.Goals as goal

pub returns-then-n-eq2-clause-leads : goal.returns-then-n-eq2-clause-leads
returns-then-n-eq2-clause-leads c = λ s. goes_back_twice _ _ _ s c.args.n c.if-n-eq2.true c.backspace-then-n-eq2.ensures.leads c.backspace-then-n-eq2-2.ensures.leads

pub returns-else-n-eq2-clause-leads : goal.returns-else-n-eq2-clause-leads
returns-else-n-eq2-clause-leads c = λ s. goes_left_by _ _ s c.args.n c.requires.few.1 (c.left.ensures.leads s)

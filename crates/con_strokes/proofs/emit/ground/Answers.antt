-- One text.
use Rattle.con_strokes.proofs.LeadLemmas.{grounds}
use Rattle.con_strokes.proofs.emit.ground.Goals as goal

pub returns-clause-leads : goal.returns-clause-leads
returns-clause-leads c = λ s. grounds _ _ s c.append.ensures.bytes

-- Controls.
use Rattle.con_strokes.proofs.LeadLemmas.{goes_back}
use Rattle.con_strokes.proofs.emit.backspace.Goals as goal

pub returns-clause-leads : goal.returns-clause-leads
returns-clause-leads c = λ s. goes_back _ _ s c.append.ensures.bytes

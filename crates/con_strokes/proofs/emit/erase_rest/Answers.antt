-- One sequence.
use Rattle.con_strokes.proofs.LeadLemmas.{erases_rest}
use Rattle.con_strokes.proofs.emit.erase_rest.Goals as goal

pub returns-clause-leads : goal.returns-clause-leads
returns-clause-leads c = λ s. erases_rest _ _ s c.append.ensures.bytes

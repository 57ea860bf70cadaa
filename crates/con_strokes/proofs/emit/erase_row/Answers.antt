-- One sequence.
use Rattle.con_strokes.proofs.LeadLemmas.{erases_row}
use Rattle.con_strokes.proofs.emit.erase_row.Goals as goal

pub returns-clause-leads : goal.returns-clause-leads
returns-clause-leads c = λ s. erases_row _ _ s c.append.ensures.bytes

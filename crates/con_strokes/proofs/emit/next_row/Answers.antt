-- Controls.
use Rattle.con_strokes.proofs.LeadLemmas.{goes_to_next_row}
use Rattle.con_strokes.proofs.emit.next_row.Goals as goal

pub returns-clause-leads : goal.returns-clause-leads
returns-clause-leads c = λ s below. goes_to_next_row _ _ s c.append.ensures.bytes below

-- Controls.
use Rattle.con_strokes.proofs.LeadLemmas.{returns_in_row}
use Rattle.con_strokes.proofs.emit.carriage_return.Goals as goal

pub returns-clause-leads : goal.returns-clause-leads
returns-clause-leads c = λ s. returns_in_row _ _ s c.append.ensures.bytes

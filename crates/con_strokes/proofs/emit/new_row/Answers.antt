-- Controls.
use Rattle.con_strokes.proofs.LeadLemmas.{makes_new_row}
use Rattle.con_strokes.proofs.emit.new_row.Goals as goal

pub returns-clause-leads : goal.returns-clause-leads
returns-clause-leads c = λ s last clear. makes_new_row _ _ s c.append.ensures.bytes last clear

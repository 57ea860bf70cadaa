-- One sequence.
use Rattle.con_strokes.proofs.LeadLemmas.{goes_up}
use Rattle.con_strokes.proofs.emit.up.Goals as goal

pub returns-clause-leads : goal.returns-clause-leads
returns-clause-leads c = λ s. goes_up _ _ c.args.n s c.requires.few.0 c.requires.few.1 c.count_bytes.ensures.bytes

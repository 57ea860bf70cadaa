-- One sequence.
use Rattle.con_strokes.proofs.LeadLemmas.{erases_some}
use Rattle.con_strokes.proofs.emit.erase_some.Goals as goal

pub returns-clause-leads : goal.returns-clause-leads
returns-clause-leads c = λ s fits. erases_some _ _ c.args.n s c.requires.few.0 c.requires.few.1 fits c.count_bytes.ensures.bytes

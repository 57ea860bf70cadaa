-- One sequence.
use Rattle.con_strokes.proofs.LeadLemmas.{goes}
use Rattle.con_strokes.proofs.emit.go_to.Goals as goal

pub returns-clause-leads : goal.returns-clause-leads
returns-clause-leads c = λ s. goes _ _ c.args.row c.args.column s c.requires.few.0 c.requires.few.1 c.place_bytes.ensures.bytes

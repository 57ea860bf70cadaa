-- One sequence.
use Rattle.std.proofs.Common.{arith}
use Rattle.con_strokes.proofs.LeadLemmas.{goes_above}
use Rattle.con_strokes.proofs.emit.above.Goals as goal

pub returns-clause-leads : goal.returns-clause-leads
returns-clause-leads c = λ s. goes_above _ _ c.args.n s (omega (arith, c.requires.few.0)) c.requires.few.1 c.count_bytes.ensures.bytes

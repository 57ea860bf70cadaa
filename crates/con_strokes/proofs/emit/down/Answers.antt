-- One sequence.
use Rattle.std.proofs.Common.{arith}
use Rattle.con_strokes.proofs.LeadLemmas.{goes_down}
use Rattle.con_strokes.proofs.emit.down.Goals as goal

pub returns-clause-leads : goal.returns-clause-leads
returns-clause-leads c = λ s. goes_down _ _ c.args.n s (omega (arith, c.requires.few.0)) c.requires.few.1 c.count_bytes.ensures.bytes

-- One character.
use Rattle.std.proofs.Common.{arith}
use Rattle.con_strokes.proofs.LeadLemmas.{prints}
use Rattle.con_strokes.proofs.emit.print.Goals as goal

pub returns-clause-leads : goal.returns-clause-leads
returns-clause-leads c = λ s. prints _ _ c.args.unit s (omega arith) c.requires.shown c.unit_bytes.ensures.bytes

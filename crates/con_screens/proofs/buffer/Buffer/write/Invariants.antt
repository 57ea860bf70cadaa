use Rattle.std.proofs.Common.{◌-◌, length}
use Rattle.con_screens.proofs.WriteLemmas.{WrittenSo}
use Rattle.con_screens.proofs.buffer.Buffer.write.Given as goal

abbrev pub invariant-loop-at : goal.invariant-loop-at
invariant-loop-at l = WrittenSo l.fn.self l.fn.answers l.units l.at l.self l.answers

abbrev pub decreases-loop-at : goal.decreases-loop-at
decreases-loop-at l = length l.units - l.at

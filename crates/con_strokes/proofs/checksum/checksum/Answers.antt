-- One more cell.
use Rattle.std.proofs.Common.{refl}
use Rattle.con_strokes.specs.Checksum.{checksum_of}
use Rattle.con_strokes.proofs.SumLemmas.{summed_more}
use Rattle.con_strokes.proofs.checksum.checksum.Goals as goal

pub loop-i-init : goal.loop-i-init
unfolding checksum_of
loop-i-init c = refl

pub loop-i-preserved : goal.loop-i-preserved
loop-i-preserved c = summed_more c.args.row.now c.loop-i.i c.loop-i.sum c.next-sum.result _ c.loop-i-test.true c.index-row-i.is c.loop-i.invariant c.next-sum.ensures

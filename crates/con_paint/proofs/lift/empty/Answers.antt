-- One more cell.
use Rattle.std.proofs.Common.{◌∙◌, arith}
use Rattle.con_paint.proofs.LiftLemmas.{emptied-more, emptied_all}
use Rattle.con_paint.proofs.lift.empty.Goals as goal

pub loop-i-preserved : goal.loop-i-preserved
loop-i-preserved c = rw c.loop-i.invariant (emptied-more c.args.cells.now c.loop-i.i c.blank-blank.result c.blank-blank.ensures (omega arith))

pub returns : goal.returns
returns c = c.loop-i.invariant ∙ emptied_all c.args.cells.now c.loop-i.i (omega arith)

-- One more cell.
use Rattle.con_paint.proofs.FrameLemmas.{blank_turn}
use Rattle.con_paint.proofs.rows.is_blank.Goals as goal

pub loop-i-preserved : goal.loop-i-preserved
loop-i-preserved c = blank_turn c.args.row.now c.loop-i.i _ c.is_same.result c.loop-i-test.true c.index-row-i.is c.loop-i.invariant (rw c.blank-blank.ensures at c.is_same.ensures) c.if-not-is_same.false

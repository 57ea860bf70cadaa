-- One more unit.
use Rattle.con_history.proofs.Summing.{fold_more}
use Rattle.con_history.proofs.kept.sum_on.Goals as goal

pub loop-i-preserved : goal.loop-i-preserved
loop-i-preserved c = fold_more c.args.sum c.args.units.now c.loop-i.i c.loop-i.after c.next-after.result c.loop-i-test.true c.loop-i.invariant c.next-after.ensures

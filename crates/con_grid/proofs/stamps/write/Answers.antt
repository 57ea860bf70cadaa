use Rattle.std.proofs.Common.{arith}
use Rattle.con_grid.proofs.FillLemmas.{fill-none, fill-more}
use Rattle.con_grid.proofs.stamps.write.Goals as goal

pub loop-at-init : goal.loop-at-init
loop-at-init c = fill-none c.args.rows.now c.args.from c.args.number

pub loop-at-preserved : goal.loop-at-preserved
loop-at-preserved c = rw c.loop-at.invariant (fill-more c.args.rows.now c.args.from c.loop-at.at c.args.number (omega arith) (omega arith))

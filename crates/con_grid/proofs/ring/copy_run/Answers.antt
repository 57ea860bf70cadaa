use Rattle.con_grid.proofs.RingLemmas.{copy_spot, copied_none}
use Rattle.con_grid.proofs.ring.copy_run.Goals as goal

pub returns-clause-cells : goal.returns-clause-cells
returns-clause-cells c = rw c.copy_within.ensures.items (copy_spot c.args.block.now.items c.args.top c.args.from c.args.to c.args.count c.spot-source.result c.spot-target.result c.spot-source.ensures c.spot-target.ensures)

pub returns-then-count-eq0-clause-cells : goal.returns-then-count-eq0-clause-cells
returns-then-count-eq0-clause-cells c = copied_none c.args.block.now.items c.args.top c.args.from c.args.to c.args.count c.if-count-eq0.true c.requires.target.inside

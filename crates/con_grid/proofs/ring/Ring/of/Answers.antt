use Rattle.con_grid.proofs.RingLemmas.{turned-none}
use Rattle.con_grid.proofs.ring.Ring.of.Goals as goal

pub returns : goal.returns
returns c = turned-none c.args.block.items

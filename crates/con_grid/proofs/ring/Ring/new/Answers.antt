use Rattle.std.proofs.Common.{◌∙◌}
use Rattle.con_grid.proofs.RingLemmas.{turned-none}
use Rattle.con_grid.proofs.ring.Ring.new.Goals as goal

pub returns : goal.returns
returns c = turned-none c.in_ok-block.block.items ∙ c.in_ok-block.ensures

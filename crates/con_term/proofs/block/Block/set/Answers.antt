-- One cell of the part.
use Rattle.con_term.proofs.BlockLemmas.{set_is}
use Rattle.con_term.proofs.block.Block.set.Goals as goal

pub returns : goal.returns
returns c = set_is c.self.inside.start c.self.inside.count c.args.at c.self.inside.cells c.set.new.self c.args.self.now c.args.cell c.self.invariant.start c.self.invariant.twice c.self.view_is c.requires c.set.ensures.cells

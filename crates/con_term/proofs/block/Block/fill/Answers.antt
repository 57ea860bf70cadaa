-- Cells of the part.
use Rattle.con_term.proofs.BlockLemmas.{same_count, fill_is}
use Rattle.con_term.proofs.block.Block.fill.Goals as goal

pub returns-clause-cells : goal.returns-clause-cells
returns-clause-cells c = fill_is c.self.inside.start c.self.inside.count c.args.from c.args.upto c.self.inside.cells c.fill.new.self c.args.self.now c.args.cell c.self.invariant.start c.self.invariant.twice c.self.view_is c.requires.order c.requires.inside c.fill.ensures.cells

pub returns-clause-len : goal.returns-clause-len
returns-clause-len c = same_count c.self.inside.start c.self.inside.count c.self.inside.cells c.fill.new.self c.args.self.now c.self.invariant.start c.self.invariant.twice c.self.view_is c.fill.ensures.len

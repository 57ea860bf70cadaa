-- The part goes on, or back to the front.
use Rattle.con_term.proofs.BlockLemmas.{lift_on_is, lift_back_is}
use Rattle.con_term.proofs.block.Block.lift.Goals as goal

pub returns-then-start-count : goal.returns-then-start-count
returns-then-start-count c = lift_on_is c.self.inside.start c.self.inside.count c.args.by c.self.inside.cells c.fill.new.self c.args.self.now c.args.cell c.self.invariant.start c.self.invariant.twice c.self.view_is c.requires c.if-start-count.true c.fill.ensures.cells

pub returns-else-start-count : goal.returns-else-start-count
returns-else-start-count c = lift_back_is c.self.inside.start c.self.inside.count c.args.by c.self.inside.cells c.pull.new.self c.args.self.now c.args.cell c.self.invariant.start c.self.invariant.twice c.self.view_is c.requires c.pull.ensures.cells

-- A run in the part.
use Rattle.con_term.proofs.BlockLemmas.{same_count, run_is, run_short}
use Rattle.con_term.proofs.block.Block.write_run.Goals as goal

pub returns-clause-cells : goal.returns-clause-cells
returns-clause-cells c = run_is c.self.inside.start c.self.inside.count c.args.from c.args.most c.write_run.result c.self.inside.cells c.write_run.new.self c.args.self.now _ c.self.invariant.start c.self.invariant.twice c.self.view_is c.requires.room c.write_run.ensures.few (run_short _ c.args.bytes.now c.write_run.result) c.write_run.ensures.cells

pub returns-clause-len : goal.returns-clause-len
returns-clause-len c = same_count c.self.inside.start c.self.inside.count c.self.inside.cells c.write_run.new.self c.args.self.now c.self.invariant.start c.self.invariant.twice c.self.view_is c.write_run.ensures.len

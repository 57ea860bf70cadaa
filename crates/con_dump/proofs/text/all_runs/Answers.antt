-- One more row.
use Rattle.std.proofs.Common.{◌∙◌}
use Rattle.con_dump.proofs.DumpLemmas.{runs_none, runs_more}
use Rattle.con_dump.proofs.text.all_runs.Goals as goal

pub loop-y-init : goal.loop-y-init
loop-y-init c = runs_none _ c.args.size.w c.args.cells.now

pub loop-y-preserved : goal.loop-y-preserved
loop-y-preserved c = runs_more _ c.reserve.new.self.items _ c.args.size.w c.loop-y.y c.args.cells.now (c.reserve.ensures.items ∙ c.loop-y.invariant) c.runs.ensures

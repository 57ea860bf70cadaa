-- One more row.
use Rattle.std.proofs.Common.{◌∙◌}
use Rattle.con_dump.proofs.DumpLemmas.{rows_none, rows_more}
use Rattle.con_dump.proofs.text.all_rows.Goals as goal

pub loop-y-init : goal.loop-y-init
loop-y-init c = rows_none _ c.args.size.w c.args.cells.now

pub loop-y-preserved : goal.loop-y-preserved
loop-y-preserved c = rows_more _ c.reserve.new.self.items _ c.args.size.w c.loop-y.y c.args.cells.now (c.reserve.ensures.items ∙ c.loop-y.invariant) c.line.ensures

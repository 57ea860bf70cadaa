use Rattle.std.proofs.Common.{◌+◌}
use Rattle.con_machine.proofs.First.{before_next, all_next}
use Rattle.con_machine.proofs.starting.open_all.Goals as goal

pub loop-i-preserved : goal.loop-i-preserved
loop-i-preserved c = (
  all_next c.args.scripts.now c.loop-i.i c.loop-i.handles.open_ones c.open_first.new.handles.open_ones _ c.loop-i-test.true c.in_ok-open_first.ensures.open c.loop-i.invariant.0,
  before_next (c.loop-i.i + 1) c.loop-i.handles.open_ones c.open_first.new.handles.open_ones c.loop-i.invariant.1 c.in_ok-open_first.ensures.open,
  c.open_first.ensures.table,
)

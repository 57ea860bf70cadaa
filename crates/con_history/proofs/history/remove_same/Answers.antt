use Rattle.std.proofs.Common.{◌∙◌, arith, not}
use Rattle.con_units.specs.Words.Units.{same_units}
use Rattle.con_history.proofs.Keeps.{turned_more}
use Rattle.con_history.proofs.history.remove_same.Goals as goal

pub loop-preserved : goal.loop-preserved
loop-preserved c = (
  c.turn_once.ensures.lines ∙ turned_more (λ other. not (same_units other c.args.line.now)) c.args.lines.now.items c.loop.lines.items c.loop.counter (omega arith) c.loop.invariant.0,
  c.turn_once.ensures.capacity ∙ c.loop.invariant.1,
  c.loop.invariant.2,
  c.loop.invariant.3,
)

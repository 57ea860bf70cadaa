use Rattle.std.proofs.Common.{◌∙◌, arith}
use Rattle.con_machine.proofs.Pairs.{pair_pushed}
use Rattle.con_machine.proofs.calls.cell_calls.cells_in_each.Goals as goal

pub loop-i-preserved : goal.loop-i-preserved
loop-i-preserved c = (
  c.push_reserved.ensures.items ∙ pair_pushed c.args.units.now c.args.words.now c.loop-i.i 0 0 c.loop-i.room.items c.of.result c.new.result c.requires c.loop-i-test.true c.loop-i.invariant.0 c.of.ensures c.new.ensures,
  omega (arith, c.push_reserved.ensures.len, c.loop-i.invariant.1),
  omega (arith, c.push_reserved.ensures.capacity, c.loop-i.invariant.2),
)

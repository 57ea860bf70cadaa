use Rattle.std.proofs.Common.{arith, refl}
use Rattle.con_machine.proofs.Listing.{copied_more, behind_more}
use Rattle.con_machine.proofs.calls.line_calls.pair.Goals as goal

pub loop-unit-preserved : goal.loop-unit-preserved
loop-unit-preserved c = (
  copied_more _ _ _ _ 0 _ c.loop-unit.invariant.0 c.push_reserved.ensures.items refl (omega arith),
  omega (arith, c.push_reserved.ensures.capacity, c.loop-unit.invariant.1),
)

pub loop-unit-2-preserved : goal.loop-unit-2-preserved
loop-unit-2-preserved c = (
  behind_more _ _ _ _ _ _ 0 _ c.loop-unit-2.invariant.0 c.push_reserved-in-loop-unit-2.ensures.items refl (omega arith),
  omega (arith, c.push_reserved-in-loop-unit-2.ensures.capacity, c.loop-unit-2.invariant.1),
)

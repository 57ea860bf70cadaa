use Rattle.std.proofs.Common.{arith, refl}
use Rattle.con_machine.proofs.Listing.{copied_more}
use Rattle.con_machine.proofs.calls.copies.text_in.Goals as goal

pub loop-unit-preserved : goal.loop-unit-preserved
loop-unit-preserved c = (
  copied_more _ _ _ _ 0 _ c.loop-unit.invariant.0 c.push_reserved.ensures.items refl (omega arith),
  omega (arith, c.push_reserved.ensures.capacity, c.loop-unit.invariant.1),
)

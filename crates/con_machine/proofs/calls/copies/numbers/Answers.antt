use Rattle.std.proofs.Common.{arith, rules, get_or, pos, w64}
use Rattle.std.proofs.lemmas.Int.{to_z-of_z}
use Rattle.con_machine.proofs.Listing.{copied_more}
use Rattle.con_machine.proofs.calls.copies.numbers.Goals as goal

pub loop-number-preserved : goal.loop-number-preserved
loop-number-preserved c = (
  copied_more _ _ _ _ _ _ c.loop-number.invariant.0 c.push_reserved.ensures.items
      (to_z-of_z w64 (get_or c.args.list.now c.loop-number.number-index (pos 0)) (search rules)) (omega arith),
  omega (arith, c.push_reserved.ensures.capacity, c.loop-number.invariant.1),
)

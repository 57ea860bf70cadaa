use Rattle.std.proofs.Common.{arith, rules, w64, ◌∙◌}
use Rattle.std.proofs.lemmas.Int.{to_z-of_z}
use Rattle.con_machine.proofs.Listing.{mapped_more}
use Rattle.con_machine.proofs.calls.process_calls.numbers_of.Goals as goal

pub loop-id-preserved : goal.loop-id-preserved
loop-id-preserved c = (
  mapped_more _ _ _ _ _ 0 _ c.loop-id.invariant.0 c.push_reserved.ensures.items (to_z-of_z w64 c.from.result (search rules) ∙ c.from.ensures) (omega arith),
  omega (arith, c.push_reserved.ensures.capacity, c.loop-id.invariant.1),
)

use Rattle.std.proofs.Common.{arith, ap, ◌∙◌}
use Rattle.con_units.specs.Glyph.{cell_of}
use Rattle.con_machine.proofs.Listing.{mapped_more}
use Rattle.con_machine.proofs.calls.cell_calls.cells_in_one.Goals as goal

pub loop-unit-preserved : goal.loop-unit-preserved
loop-unit-preserved c = (
  mapped_more _ _ _ _ _ 0 _ c.loop-unit.invariant.0 c.push_reserved.ensures.items (c.new.ensures ∙ ap (cell_of _) c.loop-unit.invariant.2) (omega arith),
  omega (arith, c.push_reserved.ensures.capacity, c.loop-unit.invariant.1),
  c.loop-unit.invariant.2,
)

use Rattle.std.proofs.Common.{arith, ap, ◌∙◌}
use Rattle.con_units.specs.Glyph.{Glyph}
use Rattle.con_machine.proofs.Listing.{mapped_more}
use Rattle.con_machine.proofs.calls.cell_calls.units_in.Goals as goal

pub loop-cell-preserved : goal.loop-cell-preserved
loop-cell-preserved c = (
  mapped_more _ _ _ _ _ c.cell-item.result _ c.loop-cell.invariant.0 c.push_reserved.ensures.items
      (c.unit.ensures.value ∙ ap (λ (g : Glyph). g.unit) c.cell-item.is) (omega arith),
  omega (arith, c.push_reserved.ensures.capacity, c.loop-cell.invariant.1),
)

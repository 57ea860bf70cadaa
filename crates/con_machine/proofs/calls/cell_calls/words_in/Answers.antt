use Rattle.std.proofs.Common.{arith, ap, ◌∙◌}
use Rattle.con_units.specs.Attr.{Attribute}
use Rattle.con_units.specs.Glyph.{Glyph}
use Rattle.con_machine.proofs.Listing.{mapped_more}
use Rattle.con_machine.proofs.calls.cell_calls.words_in.Goals as goal

pub loop-cell-preserved : goal.loop-cell-preserved
loop-cell-preserved c = (
  mapped_more _ _ _ _ _ c.cell-item.result _ c.loop-cell.invariant.0 c.push_reserved.ensures.items
      (c.bits.ensures.value ∙ ap (λ (a : Attribute). a.word) c.attr.ensures ∙ ap (λ (g : Glyph). g.attr.word) c.cell-item.is) (omega arith),
  omega (arith, c.push_reserved.ensures.capacity, c.loop-cell.invariant.1),
)

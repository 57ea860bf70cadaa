-- One more cell.
use Rattle.std.proofs.Common.{arith, refl, sym, ◌∙◌}
use Rattle.con_units.specs.Glyph.{cell_of}
use Rattle.con_units.specs.Plain.{is_plain}
use Rattle.con_term.proofs.FillLemmas.{written_more, written_none, all_more}
use Rattle.con_term.proofs.cells.write_plain.Goals as goal

pub loop-at-init : goal.loop-at-init
loop-at-init c = (omega arith, refl, written_none _ _)

pub loop-at-preserved : goal.loop-at-preserved
loop-at-preserved c = (omega (arith, c.loop-at-test.true), all_more is_plain c.args.bytes.now c.loop-at.at (omega (arith, c.loop-at-test.true, c.requires.some)) c.loop-at.invariant.1 (sym c.is_plain.ensures ∙ c.if-not-is_plain.false), written_more (λ u. cell_of u c.args.attr) c.loop-at.cells c.args.cells.now c.args.bytes.now c.args.from c.loop-at.at c.new.result (omega (arith, c.loop-at-test.true, c.requires.some)) (omega (arith, c.loop-at-test.true, c.requires.room)) c.loop-at.invariant.2 c.new.ensures)

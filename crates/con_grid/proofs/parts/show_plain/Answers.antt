use Rattle.std.proofs.Common.{arith}
use Rattle.con_units.specs.Glyph.{cell_of}
use Rattle.con_grid.proofs.FillLemmas.{show-more}
use Rattle.con_grid.proofs.PlainLemmas.{plain_at}
use Rattle.con_grid.proofs.parts.show_plain.Goals as goal

pub of_plain-requires : goal.of_plain-requires
of_plain-requires c = plain_at c.args.units.now c.loop-k.k (omega arith) c.requires.plain

pub loop-k-preserved : goal.loop-k-preserved
loop-k-preserved c =
    rw (c.loop-k.invariant, c.of_plain.ensures)
    (show-more (λ u. cell_of u c.args.attr) c.args.units.now c.args.row.now c.loop-k.k (omega arith) (omega (arith, c.requires.same)))

-- The cell stands in front of where the others begin.
use Rattle.std.proofs.Common.{◌≡◌, length, ap, arith}
use Rattle.std.proofs.lemmas.List.{length-set}
use Rattle.con_term.proofs.SheetLemmas.{set_behind}
use Rattle.con_term.proofs.sheet.Sheet.set.Goals as goal

pub invariant_of-self : goal.invariant_of-self
invariant_of-self c = let g = c.greater-self-inside.ensures in let n : length c.self.inside.cells.items ≡ length c.args.self.now = ap length c.self.view_is in let same = length-set c.self.inside.cells.items c.args.at c.args.cell in record {
  within = g.least _ (omega (arith, c.self.invariant.within, same)) (omega (arith, n, c.requires, same));
  bare = set_behind c.self.inside.cells.items c.self.inside.bare c.greater-self-inside.result c.args.at c.self.inside.blank c.args.cell g.above.0 (omega (arith, g.above.1)) c.self.invariant.bare;
}

-- The run stands in front of where the others begin.
use Rattle.std.proofs.Common.{◌≡◌, length, map, take, ap, arith}
use Rattle.con_units.specs.Glyph.{cell_of}
use Rattle.con_term.proofs.BlockLemmas.{run_short}
use Rattle.con_term.proofs.SheetLemmas.{pasted_behind}
use Rattle.con_term.proofs.sheet.Sheet.write_run.Goals as goal

pub invariant_of-self : goal.invariant_of-self
invariant_of-self c = let g = c.greater-self-inside.ensures in let r = c.write_run-count in let n : length c.self.inside.cells.items ≡ length c.args.self.now = ap length c.self.view_is in record {
  within = g.least _ (omega (arith, c.self.invariant.within, r.ensures.len)) (omega (arith, n, c.requires.room, r.ensures.few, r.ensures.len));
  bare = pasted_behind c.self.inside.cells.items r.new.cells.items (map (λ u. cell_of u c.args.attr) (take r.result c.args.bytes.now)) c.self.inside.bare c.greater-self-inside.result c.args.from c.self.inside.blank g.above.0 (omega (arith, g.above.1, run_short (λ u. cell_of u c.args.attr) c.args.bytes.now r.result)) (omega (arith, n, c.requires.room)) r.ensures.len r.ensures.cells c.self.invariant.bare;
}

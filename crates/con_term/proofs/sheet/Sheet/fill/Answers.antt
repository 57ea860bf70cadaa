-- What is known is not written.
use Rattle.std.proofs.Common.{◌≡◌, length, ap, arith}
use Rattle.con_term.proofs.SheetLemmas.{none_filled, some_filled, some_bare, filled_before}
use Rattle.con_term.proofs.sheet.Sheet.fill.Goals as goal

pub invariant_of-self : goal.invariant_of-self
invariant_of-self c = let h = c.if-from-self.true in let f = c.fill_in.ensures in record {
  within = omega (arith, h, c.self.invariant.within, f.len);
  bare = some_bare c.self.inside.cells.items c.fill_in.new.cells.items c.self.inside.bare c.args.from c.self.inside.blank c.args.cell (omega (arith, h)) c.self.invariant.within (c.goes_on.ensures.same c.if-goes_on.true) c.self.invariant.bare f.cells;
}

pub invariant_of-self-else-goes_on : goal.invariant_of-self-else-goes_on
invariant_of-self-else-goes_on c = let g = c.greater-self-inside.ensures in let f = c.fill_in-else-goes_on in let n : length c.self.inside.cells.items ≡ length c.args.self.now = ap length c.self.view_is in record {
  within = g.least _ (omega (arith, c.self.invariant.within, f.ensures.len)) (omega (arith, n, c.requires.inside, f.ensures.len));
  bare = filled_before c.self.inside.cells.items f.new.cells.items c.self.inside.bare c.greater-self-inside.result c.args.from c.args.upto c.self.inside.blank _ g.above.0 g.above.1 c.requires.order (omega (arith, n, c.requires.inside)) f.ensures.len f.ensures.cells c.self.invariant.bare;
}

pub returns-then-from-self-clause-cells : goal.returns-then-from-self-clause-cells
returns-then-from-self-clause-cells c = let s = c.goes_on.ensures in let n : length c.self.inside.cells.items ≡ length c.args.self.now = ap length c.self.view_is in
    rw (← c.self.view_is) (some_filled c.self.inside.cells.items c.fill_in.new.cells.items c.self.inside.bare c.args.from c.args.upto c.self.inside.blank c.args.cell (omega (arith, c.if-from-self.true)) (s.inside c.if-goes_on.true) (omega (arith, n, c.requires.inside)) (s.same c.if-goes_on.true) c.self.invariant.bare c.fill_in.ensures.cells)

pub returns-else-from-self-clause-cells : goal.returns-else-from-self-clause-cells
returns-else-from-self-clause-cells c = let s = c.goes_on.ensures in let n : length c.self.inside.cells.items ≡ length c.args.self.now = ap length c.self.view_is in
    rw (← c.self.view_is) (none_filled c.self.inside.cells.items c.self.inside.bare c.args.from c.args.upto c.self.inside.blank c.args.cell (omega (arith, c.if-from-self.false)) c.requires.order (omega (arith, n, c.requires.inside)) (s.same c.if-goes_on.true) c.self.invariant.bare)

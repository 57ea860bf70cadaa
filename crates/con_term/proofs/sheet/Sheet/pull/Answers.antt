-- What is known is not moved.
use Rattle.std.proofs.Common.{◌≡◌, length, ap, arith}
use Rattle.con_term.proofs.SheetLemmas.{pulled_known, pulled_anew}
use Rattle.con_term.proofs.sheet.Sheet.pull.Goals as goal

pub invariant_of-self : goal.invariant_of-self
invariant_of-self c = let e = c.greater-end.ensures in let n : length c.self.inside.cells.items ≡ length c.args.self.now = ap length c.self.view_is in
    let p = pulled_known c.self.inside.cells.items c.pull_in.new.cells.items c.args.from c.args.kept c.self.inside.bare c.lesser-copied.result c.greater-end.result c.self.inside.blank c.args.cell (c.is_same.ensures c.if-is_same.true) (rw c.saturating_sub.ensures at c.lesser-copied.ensures) (omega (arith, n, c.requires.inside)) c.self.invariant.within e.above.0 e.above.1 e.least c.self.invariant.bare c.pull_in.ensures.cells in
    record { within = omega (arith, p.few, c.pull_in.ensures.len); bare = p.bare }

pub invariant_of-self-else-is_same : goal.invariant_of-self-else-is_same
invariant_of-self-else-is_same c = let n : length c.self.inside.cells.items ≡ length c.args.self.now = ap length c.self.view_is in
    let p = pulled_anew c.self.inside.cells.items c.pull_in-else-is_same.new.cells.items c.args.from c.args.kept c.count-end.result c.args.cell (omega (arith, n, c.requires.inside)) c.count-end.ensures c.pull_in-else-is_same.ensures.cells in
    record { within = omega (arith, p.few, c.pull_in-else-is_same.ensures.len); bare = p.bare }

pub returns-then-is_same-clause-cells : goal.returns-then-is_same-clause-cells
returns-then-is_same-clause-cells c = let e = c.greater-end.ensures in let n : length c.self.inside.cells.items ≡ length c.args.self.now = ap length c.self.view_is in
    rw (← c.self.view_is) ((pulled_known c.self.inside.cells.items c.pull_in.new.cells.items c.args.from c.args.kept c.self.inside.bare c.lesser-copied.result c.greater-end.result c.self.inside.blank c.args.cell (c.is_same.ensures c.if-is_same.true) (rw c.saturating_sub.ensures at c.lesser-copied.ensures) (omega (arith, n, c.requires.inside)) c.self.invariant.within e.above.0 e.above.1 e.least c.self.invariant.bare c.pull_in.ensures.cells).cells)

pub returns-else-is_same-clause-cells : goal.returns-else-is_same-clause-cells
returns-else-is_same-clause-cells c = let n : length c.self.inside.cells.items ≡ length c.args.self.now = ap length c.self.view_is in
    rw (← c.self.view_is) ((pulled_anew c.self.inside.cells.items c.pull_in-else-is_same.new.cells.items c.args.from c.args.kept c.count-end.result c.args.cell (omega (arith, n, c.requires.inside)) c.count-end.ensures c.pull_in-else-is_same.ensures.cells).cells)

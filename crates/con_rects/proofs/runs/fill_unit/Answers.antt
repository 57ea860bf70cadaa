use Rattle.std.proofs.Common.{arith, replicate, ◌≡◌, ◌<◌, ◌+◌, length, subst, sym, ap, ◌∙◌, ℕ}
use Rattle.std.proofs.lemmas.List.{get_or-replicate}
use Rattle.con_rects.specs.Parts.{with_unit}
use Rattle.con_rects.proofs.DrawLemmas.{DoneBefore, count_is}
use Rattle.con_rects.proofs.RunLemmas.{run_at, run_first, run_more, run_last}
use Rattle.con_rects.proofs.runs.fill_unit.Goals as goal

pub loop-k-init : goal.loop-k-init
loop-k-init c =
    subst (λ (i : ℕ). DoneBefore c.args.grid.now c.args.grid.now (run_at c.args.grid.now c.args.from c.args.n with_unit (replicate c.args.n c.args.unit)) i) (omega arith)
    (run_first c.args.grid.now c.args.from c.args.n with_unit (replicate c.args.n c.args.unit) c.size-size.ensures.picture)

pub loop-k-preserved : goal.loop-k-preserved
loop-k-preserved c =
    let within : c.args.from + c.loop-k.k < length c.loop-k.grid.cells = omega (arith, count_is c.args.grid.now c.loop-k.grid c.loop-k.invariant.same c.loop-k.invariant.picture) in
    subst (λ (i : ℕ). DoneBefore c.args.grid.now c.put.new.self (run_at c.args.grid.now c.args.from c.args.n with_unit (replicate c.args.n c.args.unit)) i) (omega arith)
    (run_more c.args.grid.now c.loop-k.grid c.put.new.self c.args.from c.args.n with_unit (replicate c.args.n c.args.unit) c.loop-k.k c.at.result c.other_unit-cell.result c.loop-k.invariant c.loop-k-test.true within
    c.at.ensures (c.other_unit-cell.ensures ∙ ap (λ u. with_unit c.at.result u) (sym (get_or-replicate c.args.n c.loop-k.k c.args.unit 0 c.loop-k-test.true))) c.put.ensures.grid c.put.ensures.picture)

pub returns-clause-grid : goal.returns-clause-grid
returns-clause-grid c =
    let end : c.loop-k.k ≡ c.args.n = omega arith in
    let all = subst (λ (k : ℕ). DoneBefore c.args.grid.now c.loop-k.grid (run_at c.args.grid.now c.args.from c.args.n with_unit (replicate c.args.n c.args.unit)) (c.args.from + k)) end c.loop-k.invariant in
    run_last c.args.grid.now c.loop-k.grid c.args.from c.args.n with_unit (replicate c.args.n c.args.unit) c.size-size.ensures.picture.wide all

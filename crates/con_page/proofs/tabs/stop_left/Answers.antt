-- One column after the other.
use Rattle.std.proofs.Common.{◌≡◌, ◌≤◌, length, ap, sym, ◌∙◌, arith}
use Rattle.con_page.specs.Effect.{tab_left}
use Rattle.con_page.proofs.TabLemmas.{left_here, left_on, left_none}
use Rattle.con_page.proofs.tabs.stop_left.Goals as goal

pub returns-then-stop-clause-stop : goal.returns-then-stop-clause-stop
returns-then-stop-clause-stop c = let low : c.loop-x.x ≤ length c.args.tabs.now = omega (arith, c.loop-x.invariant.1, c.requires.inside) in
    sym (left_here c.args.tabs.now c.loop-x.x (omega (arith, c.loop-x-test.true)) low c.if-stop.true) ∙ c.loop-x.invariant.0

pub loop-x-preserved : goal.loop-x-preserved
loop-x-preserved c = let low : c.loop-x.x ≤ length c.args.tabs.now = omega (arith, c.loop-x.invariant.1, c.requires.inside) in
    (left_on c.args.tabs.now c.loop-x.x (omega (arith, c.loop-x-test.true)) low c.if-stop.false ∙ c.loop-x.invariant.0, omega (arith, c.loop-x.invariant.1))

pub returns-clause-stop : goal.returns-clause-stop
returns-clause-stop c = let first : c.loop-x.x ≡ 0 = omega (arith, c.loop-x-test.false) in
    sym (ap (λ n. tab_left c.args.tabs.now n) first ∙ left_none c.args.tabs.now) ∙ c.loop-x.invariant.0

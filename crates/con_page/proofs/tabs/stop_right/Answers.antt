-- One column after the other.
use Rattle.std.proofs.Common.{length, sym, ◌∙◌, arith}
use Rattle.con_page.proofs.TabLemmas.{right_here, right_on, right_none}
use Rattle.con_page.proofs.tabs.stop_right.Goals as goal

pub returns-then-stop-clause-stop : goal.returns-then-stop-clause-stop
returns-then-stop-clause-stop c = sym (right_here c.args.tabs.now (length c.args.tabs.now) c.loop-x.x (omega (arith, c.loop-x-test.true)) c.if-stop.true) ∙ c.loop-x.invariant.0

pub loop-x-preserved : goal.loop-x-preserved
loop-x-preserved c = (right_on c.args.tabs.now (length c.args.tabs.now) c.loop-x.x (omega (arith, c.loop-x-test.true)) c.if-stop.false ∙ c.loop-x.invariant.0, omega (arith, c.loop-x-test.true))

pub returns-clause-stop : goal.returns-clause-stop
returns-clause-stop c = sym (right_none c.args.tabs.now c.loop-x.x c.loop-x.invariant.1 (omega (arith, c.loop-x-test.false))) ∙ c.loop-x.invariant.0

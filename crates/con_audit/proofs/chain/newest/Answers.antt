-- A front without its last one.
use Rattle.std.proofs.Common.{◌-◌, arith}
use Rattle.con_audit.proofs.ChainLemmas.{is_newest, is_older}
use Rattle.con_audit.proofs.chain.newest.Goals as goal

pub returns-then-answers : goal.returns-then-answers
returns-then-answers c = is_newest c.args.event c.args.links.now c.loop-at.at (c.loop-at.at - 1) _ c.answers.result (omega (arith, c.loop-at-test.true)) (omega (arith, c.loop-at-test.true, c.loop-at.invariant.0)) c.answers.ensures c.if-answers.true c.loop-at.invariant.1

pub loop-at-preserved : goal.loop-at-preserved
loop-at-preserved c = (omega (arith, c.loop-at.invariant.0), is_older c.args.event c.args.links.now c.loop-at.at (c.loop-at.at - 1) _ c.answers.result (omega (arith, c.loop-at-test.true)) (omega (arith, c.loop-at-test.true, c.loop-at.invariant.0)) c.answers.ensures c.if-answers.false c.loop-at.invariant.1)

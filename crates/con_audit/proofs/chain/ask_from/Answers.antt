-- One handler more.
use Rattle.std.proofs.Common.{arith, ap, ◌∙◌}
use Rattle.con_audit.specs.Links.{handlers_of}
use Rattle.con_audit.proofs.ChainLemmas.{asked_none, asked_more, asked_all}
use Rattle.con_audit.proofs.chain.ask_from.Goals as goal

pub loop-at-init : goal.loop-at-init
loop-at-init c = (omega arith, asked_none c.args.first c.args.links.now)

pub loop-at-preserved : goal.loop-at-preserved
loop-at-preserved c = (omega (arith, c.loop-at.invariant.0), asked_more c.args.first c.loop-at.at c.args.links.now c.loop-at.links _ c.ask.new.link c.loop-at.invariant.0 c.loop-at-test.true c.loop-at.invariant.1 c.ask.ensures)

pub returns : goal.returns
returns c = ap handlers_of c.loop-at.invariant.1 ∙ asked_all c.args.first c.loop-at.at c.args.links.now (omega (arith, c.loop-at-test.false))

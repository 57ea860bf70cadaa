-- One handler more is asked.
use Rattle.std.proofs.Common.{◌≡◌, ◌≤◌, ◌-◌, ◌+◌, arith, sym, ◌∙◌, length}
use Rattle.con_handlers.proofs.Asking.{asked_none, asked_more, handled_here, unhandled}
use Rattle.con_handlers.proofs.chain.deliver_to.Goals as goal

pub loop-at-init : goal.loop-at-init
loop-at-init g c = asked_none _ _ _ c.args.handlers.now

pub bounds-handlers-at : goal.bounds-handlers-at
bounds-handlers-at g c = let within : c.loop-at.at ≤ length c.args.handlers.now = c.loop-at.invariant.within in omega arith

pub loop-at-preserved : goal.loop-at-preserved
loop-at-preserved g c =
    let more : c.loop-at.at ≡ c.loop-at.at - 1 + 1 = omega arith in
    asked_more _ _ c.args.event c.args.handlers.now c.loop-at.handlers c.loop-at.at (c.loop-at.at - 1) c.index-handlers-at.result c.ask.new.handler c.loop-at.invariant more
    (record { memory = c.ask.ensures.memory; by_kind = c.ask.ensures.by_kind }) (sym c.ask.ensures.answers ∙ c.if-ask.false)

pub returns-then-ask : goal.returns-then-ask
returns-then-ask g c =
    let more : c.loop-at.at ≡ c.loop-at.at - 1 + 1 = omega arith in
    handled_here _ _ c.args.event c.args.handlers.now c.loop-at.handlers c.loop-at.at (c.loop-at.at - 1) c.index-handlers-at.result c.ask.new.handler c.loop-at.invariant more
    (record { memory = c.ask.ensures.memory; by_kind = c.ask.ensures.by_kind }) (sym c.ask.ensures.answers ∙ c.if-ask.true)

pub returns : goal.returns
returns g c = unhandled _ _ c.args.event c.args.handlers.now c.loop-at.handlers c.loop-at.at c.loop-at.invariant (omega arith)

use Rattle.std.proofs.Common.{◌≡◌, arith, ap, refl, ◌∙◌}
use Rattle.con_machine.specs.State.{State}
use Rattle.con_machine.specs.Step.{step}
use Rattle.con_console.proofs.Ran.{front_more, ready_now, legal_more, state_more, replies_more}
use Rattle.con_console.proofs.console.Console.play.Goals as goal

pub returns-in_default-clause-stopped : goal.returns-in_default-clause-stopped
returns-in_default-clause-stopped c = (0, omega arith, refl)

pub apply-requires-clause-ready : goal.apply-requires-clause-ready
apply-requires-clause-ready c =
    ready_now c.loop-entry.self.state _ c.args.entries.now c.loop-entry.entry-index c.entry-item.result c.loop-entry-test.true c.entry-item.is
    c.prepare.ensures.state c.loop-entry.invariant.legal

pub loop-entry-preserved : goal.loop-entry-preserved
loop-entry-preserved c =
    let s = c.loop-entry.self.state in
    let es = c.args.entries.now in
    let i = c.loop-entry.entry-index in
    let e = c.entry-item.result in
    let at = c.loop-entry-test.true in
    let is = c.entry-item.is in
    let same : c.prepare.new.self.state ≡ s = c.prepare.ensures.state in
    let now : c.apply.new.self.state ≡ (step s e.actor e.event).after = c.apply.ensures.state ∙ ap (λ (x : State). (step x e.actor e.event).after) same in
    record {
      legal = legal_more s _ es i e at is now c.loop-entry.invariant.legal;
      state = state_more s _ _ es i e at is now c.loop-entry.invariant.state;
      told = replies_more s _ es i e _ _ _ c.apply.result at is now c.push_reserved.ensures.items
          (c.apply.ensures.reply ∙ ap (λ (x : State). (step x e.actor e.event).reply) same) c.loop-entry.invariant.told;
      count = omega (arith, c.push_reserved.ensures.len, c.loop-entry.invariant.count);
      room = omega (arith, c.push_reserved.ensures.capacity, c.loop-entry.invariant.room);
      front = c.apply.ensures.state ∙ front_more c.args.self.now.state _ es i e at is (same ∙ c.loop-entry.invariant.front);
    }

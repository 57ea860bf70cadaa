-- The first part; the others are found.
use Rattle.std.proofs.Common.{sym, ap, ◌∙◌}
use Rattle.con_machine.specs.State.{State}
use Rattle.con_machine.specs.Step.{is_ready}
use Rattle.con_audit.proofs.Behind.{tries_ready, ready_size, stands_still}
use Rattle.con_audit.proofs.Found.{not_ready}
use Rattle.con_audit.proofs.judge.Judge.entry.Goals as goal

pub returns-then-not-ready : goal.returns-then-not-ready
returns-then-not-ready c = λ g frames h s f at.
    not_ready g frames h c.args.entry.now _ (tries_ready _ _ _ _ g frames h c.args.entry.now _ s c.ready.ensures) c.if-not-ready.true

pub found-requires : goal.found-requires
found-requires c = λ z is. ready_size _ _ _ z (sym c.ready.ensures ∙ c.if-not-ready.false) is

pub returns : goal.returns
returns c = λ g frames h s f at.
    c.found.ensures _ g frames h (stands_still _ _ _ _ _ g frames h c.prepare.ensures.state s) f at (record {
      ready = ap (λ (r : State). is_ready r c.args.entry.now.actor c.args.entry.now.event) c.prepare.ensures.state ∙ sym c.ready.ensures ∙ c.if-not-ready.false;
      state = c.apply-answer.ensures.state;
      client = c.apply-answer.ensures.client;
      reply = c.apply-answer.ensures.reply;
    })

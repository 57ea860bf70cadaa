use Rattle.std.proofs.Common.{refl}
use Rattle.con_actors.specs.SenderLaws.{hangup_ready}
use Rattle.con_session.proofs.Hearing.{event_ready, hears_fault, hears_frame}
use Rattle.con_session.proofs.terminal.heard.Goals as goal

pub enter-requires-clause-ready : goal.enter-requires-clause-ready
enter-requires-clause-ready c = event_ready c.args.desk.now.console.state _ _ _ c.in-Ok.is c.event_for.ensures c.requires.frame c.requires.answered

pub enter-requires-in-Err : goal.enter-requires-in-Err
enter-requires-in-Err c = record { ready = hangup_ready c.args.desk.now.console.state; other = refl }

pub returns-in_ok-enter-in-Ok-clause-hears : goal.returns-in_ok-enter-in-Ok-clause-hears
returns-in_ok-enter-in-Ok-clause-hears c =
    hears_frame _ _ _ _ _ _ _ _ _ _ _ _ c.in-Ok.is c.event_for.ensures c.ends_the_link-ends.ensures refl c.in_ok-enter-in-Ok.ensures.entered

pub returns-in_ok-enter-in-Err-clause-hears : goal.returns-in_ok-enter-in-Err-clause-hears
returns-in_ok-enter-in-Err-clause-hears c = hears_fault _ _ _ _ _ _ _ _ _ _ _ c.in-Err.is c.end_by_fault-side.ensures refl c.in_ok-enter-in-Err.ensures.entered

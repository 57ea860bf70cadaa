use Rattle.std.proofs.Common.{refl}
use Rattle.con_events.specs.declared.event.Event.TheVariants as events
use Rattle.con_actors.specs.RanLaws.{ran_same}
use Rattle.con_actors.specs.LinkLaws.{link_hung}
use Rattle.con_actors.specs.SenderLaws.{hangup_ready, hangs, ended_idles, none_asked}
use Rattle.con_session.proofs.Hearing.{heard_link, heard_turn, plain_failed, plain_few, read_frame}
use Rattle.con_session.proofs.terminal.terminal_turn.Goals as goal

pub enter-requires-clause-ready : goal.enter-requires-clause-ready
enter-requires-clause-ready g c = hangup_ready c.args.desk.now.console.state

pub returns-then-side-clause-ran : goal.returns-then-side-clause-ran
returns-then-side-clause-ran g c = ran_same _ _ _ _ refl refl

pub returns-then-side-clause-turn : goal.returns-then-side-clause-turn
returns-then-side-clause-turn g c =
    λ b f e. (record { state = refl; entries = refl; replies = refl }, ended_idles b c.args.desk.now.entries.items _ e c.if-side.true)

pub returns-then-failed-clause-link : goal.returns-then-failed-clause-link
returns-then-failed-clause-link g c = λ before k. link_hung _ _ _ _ _ _ _ c.if-side.false c.if-failed.true c.in_ok-enter.ensures.entered.entries k

pub returns-then-failed-clause-turn : goal.returns-then-failed-clause-turn
returns-then-failed-clause-turn g c = λ b f e. record {
  event = events.Hangup;
  enters = c.in_ok-enter.ensures.entered;
  ready = hangup_ready c.args.desk.now.console.state;
  turn = hangs b c.args.desk.now.entries.items _ _ e c.if-side.false c.if-failed.true f;
}

pub heard-requires-clause-frame : goal.heard-requires-clause-frame
heard-requires-clause-frame g c = read_frame _ _ _ _ _ c.next-read.ensures.took

pub heard-requires-clause-answered : goal.heard-requires-clause-answered
heard-requires-clause-answered g c = none_asked _ _ c.requires.answered c.if-failed.false

pub returns-clause-turn : goal.returns-clause-turn
returns-clause-turn g c = λ b f e. heard_turn _ _ _ _ b _ _ _ _ _ _ _ c.if-side.false c.if-failed.false c.requires.answered
    (read_frame _ _ _ _ _ c.next-read.ensures.took) c.heard.ensures.hears f e

pub returns-clause-link : goal.returns-clause-link
returns-clause-link g c = λ before k. heard_link _ _ _ _ _ _ _ _ _ _ _ before _ _ _ _ c.if-side.false c.heard.ensures.hears c.next-read.ensures.took k

pub returns-clause-few : goal.returns-clause-few
returns-clause-few g c = plain_few _ _ _ _ _ _ _ _ _ _ _ _ _ _ c.heard.ensures.hears c.next-read.ensures.took

pub returns-clause-failed : goal.returns-clause-failed
returns-clause-failed g c = λ l. plain_failed _ _ _ _ _ _ _ _ _ _ _ c.heard.ensures.hears c.next-read.ensures.failed l

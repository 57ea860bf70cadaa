use Rattle.std.proofs.Common.{refl, inl}
use Rattle.con_link.specs.LinkReading.{mirrored}
use Rattle.con_events.specs.declared.event.Event.TheVariants as events
use Rattle.con_actors.specs.LinkLaws.{no_ok, sender_err}
use Rattle.con_actors.specs.LinkedLaws.{linked_err}
use Rattle.con_actors.specs.RanLaws.{ran_same}
use Rattle.con_actors.specs.SenderLaws.{hangup_ready, hangs, ended_idles, none_asked}
use Rattle.con_session.proofs.Hearing.{heard_turn}
use Rattle.con_session.proofs.Mirroring.{mirror_failed, mirror_few, mirror_frames, mirror_heard, mirror_hung, mirror_stays, mirror_stops, plain_frame}
use Rattle.con_session.proofs.second.mirrored_turn.Goals as goal

pub enter-requires-clause-ready : goal.enter-requires-clause-ready
enter-requires-clause-ready g c = hangup_ready c.args.desk.now.console.state

pub attended-requires : goal.attended-requires
attended-requires g c = mirror_frames _ _ _ _ _ c.next_mirrored-read.ensures.took

pub heard-requires-clause-frame : goal.heard-requires-clause-frame
heard-requires-clause-frame g c = plain_frame _ _ _ _ _ _ c.as_plain_read.ensures c.next_mirrored-read.ensures.took

pub heard-requires-clause-answered : goal.heard-requires-clause-answered
heard-requires-clause-answered g c = none_asked _ _ c.requires.answered c.if-failed.false

pub returns-then-side-clause-ran : goal.returns-then-side-clause-ran
returns-then-side-clause-ran g c = ran_same _ _ _ _ refl refl

pub returns-then-side-clause-turn : goal.returns-then-side-clause-turn
returns-then-side-clause-turn g c =
    λ b f e. (record { state = refl; entries = refl; replies = refl }, ended_idles b c.args.desk.now.entries.items _ e c.if-side.true)

pub returns-then-side-clause-link : goal.returns-then-side-clause-link
returns-then-side-clause-link g c = λ s size es end was now lost before k. k

pub returns-then-failed-clause-link : goal.returns-then-failed-clause-link
returns-then-failed-clause-link g c = λ s size es end was now lost before k.
    mirror_hung s _ es end was now lost _ _ _ _ before _ _ c.if-side.false c.if-failed.true c.in_ok-enter.ensures.entered.entries k

pub returns-then-failed-clause-turn : goal.returns-then-failed-clause-turn
returns-then-failed-clause-turn g c = λ b f e. record {
  event = events.Hangup;
  enters = c.in_ok-enter.ensures.entered;
  ready = hangup_ready c.args.desk.now.console.state;
  turn = hangs b c.args.desk.now.entries.items _ _ e c.if-side.false c.if-failed.true f;
}

pub returns-in_err-enter-clause-link : goal.returns-in_err-enter-clause-link
returns-in_err-enter-clause-link g c = λ s size es end was now lost before k. linked_err mirrored _ _ _ _ _ _ before _ _ _ c.from_residual.ensures.0
    c.in_err-enter.ensures.same.entries (mirror_stays s _ es end was now lost size _ _ _ before _ _ k)

pub returns-in_err-attended-clause-ran : goal.returns-in_err-attended-clause-ran
returns-in_err-attended-clause-ran g c = ran_same _ _ _ _ refl refl

pub returns-in_err-attended-clause-turn : goal.returns-in_err-attended-clause-turn
returns-in_err-attended-clause-turn g c =
    λ b f e. sender_err b _ _ _ _ _ _ _ c.from_residual-in_err-attended.ensures.0 (record { state = refl; entries = refl; replies = refl })

pub returns-in_err-attended-clause-link : goal.returns-in_err-attended-clause-link
returns-in_err-attended-clause-link g c =
    λ s size es end was now lost before k. linked_err mirrored _ _ _ _ _ _ before _ _ _ c.from_residual-in_err-attended.ensures.0 refl
    (mirror_stops s _ es end was now lost size _ _ _ before _ _ _ _ _ c.if-side.false c.next_mirrored-read.ensures.took k)

pub returns-in_err-attended-clause-few : goal.returns-in_err-attended-clause-few
returns-in_err-attended-clause-few g c = no_ok _ _ c.from_residual-in_err-attended.ensures.0

pub returns-clause-turn : goal.returns-clause-turn
returns-clause-turn g c = λ b f e. heard_turn _ _ _ _ b _ _ _ _ _ _ _ c.if-side.false c.if-failed.false c.requires.answered
    (plain_frame _ _ _ _ _ _ c.as_plain_read.ensures c.next_mirrored-read.ensures.took) c.heard.ensures.hears f e

pub returns-clause-link : goal.returns-clause-link
returns-clause-link g c = mirror_heard _ _ _ _ _ _ _ _ _ _ _ _ _ _ _ _ _ _ c.as_plain_read.ensures c.if-side.false c.heard.ensures.hears
    c.next_mirrored-read.ensures.took c.in_ok-attended.ensures.kept

pub returns-clause-few : goal.returns-clause-few
returns-clause-few g c = mirror_few _ _ _ _ _ _ _ _ _ _ _ _ _ _ _ c.as_plain_read.ensures c.heard.ensures.hears c.next_mirrored-read.ensures.took

pub returns-clause-failed : goal.returns-clause-failed
returns-clause-failed g c = λ l. mirror_failed _ _ _ _ _ _ _ _ _ _ _ _ c.as_plain_read.ensures c.heard.ensures.hears c.next_mirrored-read.ensures.failed l

pub returns-then-side-clause-given : goal.returns-then-side-clause-given
returns-then-side-clause-given g c = inl refl

pub returns-then-failed-clause-given : goal.returns-then-failed-clause-given
returns-then-failed-clause-given g c = inl refl

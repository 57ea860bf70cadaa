-- What each event does to what is said of Paints: whether one is asked for, a new size, the view painted last, and the link's end.
use Rattle.std.proofs.Common.{◌≡◌, Bool, true, false, [], refl, ap}
use Rattle.std.specs.Prelude.{◌||◌}
use Rattle.con_events.specs.declared.actor.Actor.{Actor}
use Rattle.con_events.specs.declared.actor.Actor.TheVariants as actors
use Rattle.con_events.specs.declared.event.Event.{Event}
use Rattle.con_events.specs.declared.event.Event.TheVariants as events
use Rattle.con_events.specs.declared.reply.Reply.TheVariants as replies
use Rattle.con_machine.specs.State.{State}
use Rattle.con_machine.specs.Painting.{view_now}
use Rattle.con_machine.specs.Words.Painting.{differs}
use Rattle.con_machine.specs.Step.{step, effect, is_ready, is_due}
use Rattle.con_machine.specs.Moves.{Moves}
use Rattle.con_machine.specs.EventLaws.{Frame, step_frame}

pub step_moves : (s : State) (a : Actor) (e : Event) → Moves s e (step s a e).after
step_moves s a e =
    let k = step_frame s a e in
    record {
      asks = ap (λ (f : Frame). f.asked) k;
      sizes = ap (λ (f : Frame). f.resized) k;
      paints = ap (λ (f : Frame). f.painted) k;
      ends = ap (λ (f : Frame). f.drained) k;
    }

-- ---- Paints

second : (a b c : Bool) → b ≡ true → (a || b || c) ≡ true
second true b c e = refl
second false b c e = rw e refl

-- what is asked for is due
pub asked_is_due : (s : State) → s.asked ≡ true → is_ready s actors.Painter events.Paint ≡ true
unfolding is_ready is_due
asked_is_due s e = second s.resized s.asked (differs (view_now s) s.painted) e

-- a Paint answers the view
pub paint_answers : (s : State) → (step s actors.Painter events.Paint).reply ≡ replies.View (view_now s) [] false
unfolding step effect
paint_answers s = refl

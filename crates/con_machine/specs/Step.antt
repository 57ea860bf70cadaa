-- One step of the console: an event of an actor gives a new console and a reply. And when an event may be entered.
use Rattle.std.specs.Prelude.{ℕ, ◌&&◌, ◌||◌, Bool, true, false, not, is_some, [], if◌then◌else◌}
use Rattle.con_units.specs.declared.code.Code.TheVariants as code
pub use Rattle.con_events.specs.Actors.{is_clients, is_actors}
use Rattle.con_events.specs.Session.{is_size}
use Rattle.con_events.specs.declared.actor.Actor.{Actor}
use Rattle.con_events.specs.declared.actor.Actor.TheVariants as actors
use Rattle.con_events.specs.declared.event.Event.{Event}
use Rattle.con_events.specs.declared.event.Event.TheVariants as events
use Rattle.con_events.specs.declared.reply.Reply.TheVariants as replies
use Rattle.con_procs.specs.Procs.{is_attached, first_pending}
use Rattle.con_readers.specs.Reads.{has_done}
use Rattle.con_machine.specs.State.{State}
use Rattle.con_machine.specs.Outcome.{Outcome, refused, answered, done}
use Rattle.con_machine.specs.Call.{called}
use Rattle.con_machine.specs.Serving.{settled_state}
use Rattle.con_machine.specs.Closing.{hung_up, closing}
use Rattle.con_machine.specs.Reads.{began, collected, took_ctrl, left}
use Rattle.con_machine.specs.Terminal.{fed, quiet, resized}
use Rattle.con_machine.specs.Painting.{view_now, is_paint_due, painted}

abbrev pub client_of : Actor → ℕ
client_of (actors.Client p) = p
client_of _ = 0

-- ---- the step

unfoldable pub effect : State → ℕ → Event → Outcome
effect s p (events.Call call) = called s p call
effect s p (events.Begin w) = began s p w
effect s p events.Collect = collected s p
effect s p events.TakeCtrl = took_ctrl s p
effect s p (events.Exit status) = done (left s p status)
effect s p (events.Feed bytes) = done (fed s bytes)
effect s p events.Quiet = done (quiet s)
effect s p (events.Resize size) = done (resized s size)
effect s p events.Ask = done (record s { asked = true })
effect s p events.Hangup = done (hung_up s)
effect s p events.Drained = done (record s { drained = true })
effect s p events.Paint = answered (painted s) (replies.View (view_now s) [] false)

-- an event of a client that is not attached
abbrev pub is_outside : State → Actor → Event → Bool
is_outside s actor e = is_clients e && not (is_attached s.procs (client_of actor))

-- open reads are served, and then the console may close
abbrev pub finished : Outcome → Outcome
finished o = record o { after = closing (settled_state o.after) }

unfoldable pub step : State → Actor → Event → Outcome
step s actor e = if is_outside s actor e then refused s code.BadHandle else finished (effect s (client_of actor) e)

-- ---- ready

-- all that comes from the terminal's side, but a Hangup, waits until what was asked for is painted
unfoldable pub is_due : State → ℕ → Event → Bool
is_due s p events.Collect = has_done s.reads p
is_due s p events.TakeCtrl = is_some (first_pending s.procs p)
is_due s p (events.Resize size) = is_size size && not s.asked
is_due s p events.Hangup = true
is_due s p events.Paint = is_paint_due s
is_due s p e = is_clients e || not s.asked

unfoldable pub is_ready : State → Actor → Event → Bool
is_ready s actor e = is_actors actor e && (is_outside s actor e || is_due s (client_of actor) e)

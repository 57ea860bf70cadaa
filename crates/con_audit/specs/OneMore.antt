-- What one entry more must keep, by what is known behind those before it.
use Rattle.std.specs.Prelude.{◌≡◌, ◌↔◌, ℕ, Bool, true, false, List, [], ◌∷◌, ◌++◌, length, slice_get, Some, None, Option}
use Rattle.con_units.specs.declared.view.Frame.{Frame}
use Rattle.con_events.specs.declared.actor.Actor.{Actor}
use Rattle.con_events.specs.declared.actor.Actor.TheVariants as actors
use Rattle.con_events.specs.declared.entry.Entry.{Entry}
use Rattle.con_events.specs.declared.reply.Reply.{Reply}
use Rattle.con_machine.specs.State.{State}
use Rattle.con_machine.specs.Step.{is_ready}
use Rattle.con_machine.specs.Along.{Along}
use Rattle.con_machine.specs.Words.Along.{after}
use Rattle.con_machine.specs.History.{run}
use Rattle.con_machine.specs.Turns.{turns, turn_of, sent}
use Rattle.con_machine.specs.Client.{Client, client_after}
use Rattle.con_machine.specs.Words.Client.{May}
use Rattle.con_machine.specs.Follows.{session_start, is_one_of, steps_of, kinds_of, Sender, MaySend, sent_one}
use Rattle.con_machine.specs.Words.Follows.{asks}
use Rattle.con_machine.specs.Sights.{sights_of, sights_at}
use Rattle.con_audit.specs.Watching.{Watch, watching, watched, HasEnd, IsSeen}
use Rattle.con_audit.specs.Audit.{Given, Holds}
use Rattle.con_audit.specs.Verdicts.{IsReplied}
use Rattle.con_audit.specs.declared.verdict.What.{What}
use Rattle.con_audit.specs.declared.verdict.What.TheVariants as what

-- ---- behind a history

abbrev pub state_after : Given → List Entry → State
state_after g h = run (session_start g.session g.racks) h

abbrev pub client_now : Given → List Entry → ℕ → Client
client_now g h p = client_after (steps_of g.session p) (kinds_of g.racks p) (turns (session_start g.session g.racks) p h)

abbrev pub sender_after : List Frame → List Entry → Sender
sender_after frames h = after sent_one (record { coming = frames; ended = false }) (sent h)

abbrev pub asks_after : List Entry → Bool
asks_after h = after asks false h

abbrev pub watch_after : Given → List Entry → Watch
watch_after g h = after (watched g.stream) (watching g.session.size g.ends) (sights_of (session_start g.session g.racks) h)

-- ---- an entry

-- the actor is one of the session's, and it may
abbrev pub MayEnter : Given → List Frame → List Entry → Entry → Actor → Type 0
MayEnter g frames h x (actors.Client p) = May (client_now g h p) (turn_of (state_after g h) p x)
MayEnter g frames h x actors.Terminal = MaySend false (sender_after frames h) x.event × (asks_after h ≡ false)
MayEnter g frames h x actors.Painter = Unit {0}

abbrev pub HasReply : State → Entry → Option Reply → Type 0
HasReply s x None = ⊥
HasReply s x (Some r) = IsReplied s x r

abbrev pub Keeps : What → Given → List Frame → List Entry → Entry → Type 0
Keeps what.Ready g frames h x = is_ready (state_after g h) x.actor x.event ≡ true
Keeps what.Reply g frames h x = HasReply (state_after g h) x (slice_get g.replies (length h))
Keeps what.Follows g frames h x = (is_one_of (length g.session.scripts) x.actor ≡ true) × MayEnter g frames h x x.actor
Keeps what.End g frames h x = Along (HasEnd g.stream) (watched g.stream) (watch_after g h) (sights_at (state_after g h) x.event)
Keeps what.Shows g frames h x = Along (IsSeen g.stream) (watched g.stream) (watch_after g h) (sights_at (state_after g h) x.event)
Keeps what.Whole g frames h x = Unit {0}

-- Behind a front that holds, what one entry more must keep is exactly what keeps the longer front.
abbrev pub EntryByEntry : Type 0
EntryByEntry = (w : What) (g : Given) (frames : List Frame) (h : List Entry) (x : Entry) → (w ≡ what.Whole → ⊥) → Holds w g frames h
    → (Keeps w g frames h x) ↔ (Holds w g frames (h ++ x ∷ []))

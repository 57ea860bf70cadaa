-- Which places of its rack a process has added to its chain.
use Rattle.std.specs.Prelude.{◌≡◌, ℕ, ◌==◌, ◌&&◌, ◌||◌, Bool, true, false, not, List, [], ◌∷◌, Option, None, Some}
use Rattle.con_procs.specs.Procs.{place_in}
use Rattle.con_procs.specs.declared.rack.Place.{Place}
use Rattle.con_procs.specs.declared.rack.Place.TheVariants as place
use Rattle.con_events.specs.declared.actor.Actor.{Actor}
use Rattle.con_events.specs.declared.call.Call.{Call}
use Rattle.con_events.specs.declared.call.Call.TheVariants as calls
use Rattle.con_events.specs.declared.event.Event.{Event}
use Rattle.con_events.specs.declared.event.Event.TheVariants as events
use Rattle.con_events.specs.declared.reply.Reply.{Reply}
use Rattle.con_machine.specs.Client.{is_fail}
use Rattle.con_machine.specs.State.{State}
use Rattle.con_machine.specs.Step.{step}
use Rattle.con_machine.specs.Turns.{Turn, is_client}

-- the place is in the chain, or was
abbrev pub is_added : Option Place → Bool
is_added None = false
is_added (Some place.Fresh) = false
is_added (Some place.Chained) = true
is_added (Some place.Removed) = true

-- process p has added place i of its rack
abbrev pub was_added : State → ℕ → ℕ → Bool
was_added s p i = is_added (place_in s.procs p i)

-- the place that a call adds
abbrev pub place_in_call : Call → Option ℕ
place_in_call (calls.HandlerAdd place) = Some place
place_in_call _ = None

abbrev pub place_in_event : Event → Option ℕ
place_in_event (events.Call call) = place_in_call call
place_in_event _ = None

abbrev pub names_place : ℕ → Option ℕ → Bool
names_place i None = false
names_place i (Some j) = j == i

-- the place was added by an event that was so answered
abbrev pub adds : ℕ → Event → Reply → Bool
adds i e reply = names_place i (place_in_event e) && not (is_fail reply)

-- one of a client's entries added the place
abbrev pub has_added : ℕ → List Turn → Bool
has_added i [] = false
has_added i (t ∷ ts) = adds i t.event t.reply || has_added i ts

-- process p added place i
abbrev pub adds_to : ℕ → ℕ → Actor → Event → Reply → Bool
adds_to p i actor e reply = is_client p actor && adds i e reply

-- where a place was added (b), it had not been; and it has been added where it was added now or before
pub record Once (s t : State) (b : Bool) (p i : ℕ) : Type 0 where
  pub first : b ≡ true → was_added s p i ≡ false
  pub after' : was_added t p i ≡ (b || was_added s p i)

-- an event adds a place at most once
abbrev pub AddsOnce : State → Actor → Event → ℕ → ℕ → Type 0
AddsOnce s a e p i = Once s (step s a e).after (adds_to p i a e (step s a e).reply) p i

-- Actors by their numbers, as a book of turns has them: client p is p, the side of the terminal 1,000, the painter 1,001.
use Rattle.std.specs.Prelude.{ℕ, ◌==◌, ◌&&◌, Bool, false, nat_lt, [], Option, None, Some, if◌then◌else◌}
use Rattle.con_events.specs.declared.actor.Actor.{Actor}
use Rattle.con_events.specs.declared.actor.Actor.TheVariants as actors
use Rattle.con_events.specs.declared.event.Event.{Event}
use Rattle.con_events.specs.declared.reply.Reply.{Reply}
use Rattle.con_events.specs.declared.reply.Reply.TheVariants as replies
use Rattle.con_machine.specs.Fits.{Fits}
use Rattle.con_machine.specs.Held.{Held}
use Rattle.con_machine.specs.Marks.{Tells}
use Rattle.con_machine.specs.State.{State, opening}
use Rattle.con_machine.specs.Step.{step, is_ready}
use Rattle.con_machine.specs.declared.rooms.room.Room.{Room}

-- no other number is an actor
abbrev pub actor_of : ℕ → Option Actor
actor_of n =
    if nat_lt 0 n && nat_lt n 256 then Some (actors.Client n)
    else if n == 1000 then Some actors.Terminal
    else if n == 1001 then Some actors.Painter
    else None

abbrev pub next_of : State → Option Actor → Event → State
next_of s None e = s
next_of s (Some actor) e = (step s actor e).after

abbrev pub answer_of : State → Option Actor → Event → Reply
answer_of s None e = replies.Done
answer_of s (Some actor) e = (step s actor e).reply

abbrev pub ready_of : State → Option Actor → Event → Bool
ready_of s None e = false
ready_of s (Some actor) e = is_ready s actor e

abbrev pub fits_of : Room → Held → Option Actor → Event → Type 0
fits_of room c None e = Unit {0}
fits_of room c (Some actor) e = Fits room c actor e

abbrev pub tells_of : Reply → State → Option Actor → Event → Type 0
tells_of reply s None e = Unit {0}
tells_of reply s (Some actor) e = Tells s e reply

-- any state
abbrev pub blank_state : State
blank_state = opening (record { size = record { w = 1; h = 1 }; scripts = [] }) []

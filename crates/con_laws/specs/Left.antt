-- Where what is left of a line for further reads of a handle comes from.
use Rattle.std.specs.Prelude.{◌≡◌, ℕ, List, ◌∷◌, ◌++◌, Some, slice_get}
use Rattle.con_events.specs.declared.entry.Entry.{Entry}
use Rattle.con_events.specs.declared.event.Event.{Event}
use Rattle.con_events.specs.declared.event.Event.TheVariants as events
use Rattle.con_events.specs.declared.event.Wanted.{Wanted}
use Rattle.con_events.specs.declared.reply.Reply.{Reply}
use Rattle.con_events.specs.declared.reply.Reply.TheVariants as replies
use Rattle.con_readers.specs.Reads.{answer_in, place_of}
use Rattle.con_readers.specs.declared.answer.Answer.TheVariants as answers
use Rattle.con_readers.specs.declared.open.OpenRead.TheVariants as reads
use Rattle.con_machine.specs.State.{State, noted_of, rest_in}
use Rattle.con_machine.specs.History.{run}
use Rattle.con_machine.specs.Step.{step, client_of}
use Rattle.con_laws.specs.Words.Answers.{opens}
use Rattle.con_machine.specs.declared.reads.noted.Noted.{Noted}
use Rattle.con_laws.specs.Remains.{handle_of}

-- A Collect of a line read of this handle answered the front of its text, and this followed.
pub record LineLeaves (s : State) (p hd : ℕ) (reply : Reply) (rest : List ℕ) : Type 0 where
  pub note : Noted
  pub noted : noted_of s.noted p ≡ Some note
  pub handle : note.handle ≡ hd
  pub text : List ℕ
  pub answer : answer_in (slice_get s.reads (place_of s.reads p)) ≡ answers.Units text
  pub units : List ℕ
  pub told : reply ≡ replies.Units units
  pub whole : text ≡ units ++ rest

-- A line read of this handle was answered at its Begin by the front of what was left, and this followed.
pub record RestLeaves (s : State) (p hd : ℕ) (w : Wanted) (rest : List ℕ) : Type 0 where
  pub handle : handle_of w ≡ hd
  pub units : List ℕ
  pub answer : opens s p w ≡ reads.Done (answers.Units units)
  pub whole : rest_in s.rests p hd ≡ units ++ rest

-- the line read that a client's event answered left this for the handle
abbrev pub LeavesRest : State → ℕ → ℕ → Event → Reply → List ℕ → Type 0
LeavesRest s p hd events.Collect reply rest = LineLeaves s p hd reply rest
LeavesRest s p hd (events.Begin w) reply rest = RestLeaves s p hd w rest
LeavesRest s p hd (events.Call c) reply rest = ⊥
LeavesRest s p hd events.TakeCtrl reply rest = ⊥
LeavesRest s p hd (events.Exit n) reply rest = ⊥
LeavesRest s p hd (events.Feed bytes) reply rest = ⊥
LeavesRest s p hd events.Quiet reply rest = ⊥
LeavesRest s p hd (events.Resize size) reply rest = ⊥
LeavesRest s p hd events.Ask reply rest = ⊥
LeavesRest s p hd events.Hangup reply rest = ⊥
LeavesRest s p hd events.Drained reply rest = ⊥
LeavesRest s p hd events.Paint reply rest = ⊥

-- an entry of this history by the handle's client left it
pub record LeftBy (s : State) (h : List Entry) (p hd : ℕ) (rest : List ℕ) : Type 0 where
  pub before : List Entry
  pub entry : Entry
  pub later : List Entry
  pub is : h ≡ before ++ entry ∷ later
  pub client : client_of entry.actor ≡ p
  pub leaves : LeavesRest (run s before) p hd entry.event (step (run s before) entry.actor entry.event).reply rest

-- Each record of the input goes to at most one read that removes it, and what each read answers is of the records that went to it.
use Rattle.std.specs.Prelude.{◌≡◌, ◌⊎◌, ℕ, true, List, [], ◌∷◌, ◌++◌, Some}
use Rattle.con_events.specs.declared.actor.Actor.TheVariants as actors
use Rattle.con_events.specs.declared.entry.Entry.{Entry}
use Rattle.con_events.specs.declared.event.Event.TheVariants as events
use Rattle.con_events.specs.declared.reply.Reply.TheVariants as replies
use Rattle.con_procs.specs.Procs.{is_attached}
use Rattle.con_readers.specs.Pieces.{joined}
use Rattle.con_readers.specs.Reads.{has_done}
use Rattle.con_machine.specs.State.{State, rest_in}
use Rattle.con_machine.specs.History.{run}
use Rattle.con_machine.specs.Step.{step}
use Rattle.std.specs.Prelude.{take, slice_get, option_map}
use Rattle.con_units.specs.declared.code.Code.TheVariants as code
use Rattle.con_events.specs.declared.call.Call.TheVariants as calls
use Rattle.con_events.specs.declared.event.Wanted.{Wanted}
use Rattle.con_events.specs.declared.event.Wanted.TheVariants as wanted
use Rattle.con_laws.specs.Answers.{read_opened, EndsSo}
use Rattle.con_laws.specs.Remains.{IsLeft}
use Rattle.con_laws.specs.Texts.{AnswersText, asked_for}
use Rattle.con_laws.specs.Fates.{Taker, Begun, Earlier, Interrupted, CutOff, arrived, pieces, done_for, fate, fated, readers_from}

-- behind a front of a history a client, which is attached, collects a read that is done, of its Begin at this place, which waits for this
pub record Collects (s : State) (h before later : List Entry) (p place : ℕ) (w : Wanted) : Type 0 where
  pub is : h ≡ before ++ record { actor = actors.Client p; event = events.Collect } ∷ later
  pub last : readers_from Earlier 0 s before p ≡ Begun place
  pub wanted : option_map (λ x. x.event) (slice_get before place) ≡ Some (events.Begin w)
  pub attached : is_attached (run s before).procs p ≡ true
  pub done : has_done (run s before).reads p ≡ true

-- PeekConsoleInput
abbrev pub peek : ℕ → ℕ → ℕ → Entry
peek p hd n = record { actor = actors.Client p; event = events.Call (calls.Peek hd n) }

-- What became of the records of one history, whole:
pub record TakenOnce (s : State) (h : List Entry) : Type 0 where
  -- those that were there and that arrived are, in order, what reads took and flushes removed, piece by piece, and what is there yet
  pub pieces' : s.records ++ arrived s h ≡ joined (pieces s h) ++ (run s h).records
  -- the records of a fate are the pieces of its taker
  pub fates : (t : Taker) → fated s h t ≡ joined (done_for t (pieces s h))
  -- a read of records answers exactly the records whose fate is its Begin, or that the console closed before it had one
  pub answers : (before later : List Entry) (p place hd n : ℕ) → Collects s h before later p place (wanted.ReadInput hd n)
      → (let reply = (step (run s before) (actors.Client p) events.Collect).reply in
      (reply ≡ replies.Records (fated s h (Begun place))) ⊎ ((reply ≡ replies.Fail code.Closed) × (fated s h (Begun place) ≡ [])))
  -- the units that another read answers are what lines and reads give for exactly the records whose fate is its Begin, as it began; or
  -- they come from what was left of a line, or it asked for none, and then it took no record
  pub texts : (before later : List Entry) (p place : ℕ) (w : Wanted) (units : List ℕ) → Collects s h before later p place w
      → (step (run s before) (actors.Client p) events.Collect).reply ≡ replies.Units units
      → AnswersText (read_opened (run s (take place h)) p w) (asked_for w) (done_for (Begun place) (pieces s h)) (fated s h (Begun place)) units
  -- a read answers that ctrl+C ended it (ERROR_OPERATION_ABORTED, 995) exactly where ctrl+C was signalled to all while it was the first line read that was not
  -- done, and that the console closed (ERROR_BROKEN_PIPE, 109) exactly where it closed while the read was not done
  pub failed : (before later : List Entry) (p place : ℕ) (w : Wanted) → Collects s h before later p place w
      → (let reply = (step (run s before) (actors.Client p) events.Collect).reply in let done = done_for (Begun place) (pieces s before) in
      EndsSo Interrupted code.Aborted reply done × EndsSo CutOff code.Closed reply done)
  -- what is left of a line for a handle is of the last line read of that handle, and each of its units is answered once
  pub rests : (before later : List Entry) (p hd : ℕ) → h ≡ before ++ later
      → (rest_in (run s before).rests p hd ≡ []) ⊎ IsLeft s before p hd (rest_in (run s before).rests p hd)
  -- a peek leaves all of the console as it is, and each record its fate
  pub peeks : (before later : List Entry) (p hd n : ℕ) → h ≡ before ++ peek p hd n ∷ later
      → (run s (before ++ peek p hd n ∷ []) ≡ run s before) × ((k : ℕ) → fate s (before ++ peek p hd n ∷ []) k ≡ fate s before k)
  -- and a fate that a record has, it keeps
  pub keeps : (before later : List Entry) (k : ℕ) (t : Taker) → h ≡ before ++ later → fate s before k ≡ Some t → fate s h k ≡ Some t

-- What is left of a line for further reads of a handle, walked entry by entry, as the proofs go.
use Rattle.std.specs.Prelude.{◌≡◌, ℕ, ◌==◌, ◌&&◌, ◌||◌, Bool, true, false, not, List, [], ◌∷◌, ◌++◌, Option, Some, None, if◌then◌else◌}
use Rattle.con_events.specs.declared.actor.Actor.{Actor}
use Rattle.con_events.specs.declared.call.Call.{Call}
use Rattle.con_events.specs.declared.call.Call.TheVariants as calls
use Rattle.con_events.specs.declared.entry.Entry.{Entry}
use Rattle.con_events.specs.declared.event.Event.{Event}
use Rattle.con_events.specs.declared.event.Event.TheVariants as events
use Rattle.con_events.specs.declared.reply.Reply.{Reply}
use Rattle.con_events.specs.declared.reply.Reply.TheVariants as replies
use Rattle.con_readers.specs.declared.answer.Answer.{Answer}
use Rattle.con_readers.specs.declared.answer.Answer.TheVariants as answers
use Rattle.con_readers.specs.declared.open.OpenRead.{OpenRead}
use Rattle.con_readers.specs.declared.open.OpenRead.TheVariants as reads
use Rattle.con_machine.specs.State.{State, noted_of}
use Rattle.con_laws.specs.Words.Answers.{opens}
use Rattle.con_machine.specs.Client.{is_fail}
use Rattle.con_machine.specs.History.{run}
use Rattle.con_laws.specs.Left.{LineLeaves}
use Rattle.con_laws.specs.Remains.{handle_of}
use Rattle.con_machine.specs.Step.{step, client_of}
use Rattle.con_machine.specs.Turns.{moved}
use Rattle.con_machine.specs.declared.reads.noted.Noted.{Noted}

-- ---- what reads take of it

abbrev pub units_in : Answer → List ℕ
units_in (answers.Units units) = units
units_in _ = []

-- what a read that begins so answers at once
abbrev pub at_once : OpenRead → List ℕ
at_once (reads.Done a) = units_in a
at_once _ = []

-- of what was left for handle hd of client p, an event of client c answers these: a read of that handle that is not refused, and is
-- done as it begins
abbrev pub takes : State → ℕ → ℕ → ℕ → Event → Reply → List ℕ
takes s c p hd (events.Begin w) reply = if (c == p) && ((handle_of w == hd) && not (is_fail reply)) then at_once (opens s c w) else []
takes s c p hd _ reply = []

-- all that the entries of a history answer of it, in order
abbrev pub takes_in : State → ℕ → ℕ → List Entry → List ℕ
takes_in s p hd [] = []
takes_in s p hd (x ∷ xs) = takes s (client_of x.actor) p hd x.event (step s x.actor x.event).reply ++ takes_in (moved s x) p hd xs

-- ---- what ends it

abbrev pub closes : ℕ → ℕ → ℕ → Call → Reply → Bool
closes c p hd (calls.Close h) reply = (c == p) && ((h == hd) && not (is_fail reply))
closes c p hd _ reply = false

-- what is noted of a line read of this handle
abbrev pub is_line_of : ℕ → Option Noted → Bool
is_line_of hd None = false
is_line_of hd (Some n) = n.handle == hd

abbrev pub has_units : Reply → Bool
has_units (replies.Units units) = true
has_units _ = false

-- client p closes handle hd, or exits, or collects a line read of that handle
abbrev pub ends : State → ℕ → ℕ → ℕ → Event → Reply → Bool
ends s c p hd (events.Call call) reply = closes c p hd call reply
ends s c p hd events.Collect reply = (c == p) && (is_line_of hd (noted_of s.noted c) && has_units reply)
ends s c p hd (events.Exit status) reply = (c == p) && not (is_fail reply)
ends s c p hd _ reply = false

abbrev pub ends_in : State → ℕ → ℕ → List Entry → Bool
ends_in s p hd [] = false
ends_in s p hd (x ∷ xs) = ends s (client_of x.actor) p hd x.event (step s x.actor x.event).reply || ends_in (moved s x) p hd xs

-- ---- whose it is

-- What is left for a handle of a client is of the last line read of that handle that the client collected:
pub record IsLeft (s : State) (h : List Entry) (p hd : ℕ) (rest : List ℕ) : Type 0 where
  pub before : List Entry
  pub last : Entry
  pub later : List Entry
  pub is : h ≡ before ++ last ∷ later
  pub client : client_of last.actor ≡ p
  pub collect : last.event ≡ events.Collect
  -- it answered the front of its text, and this followed;
  pub left : List ℕ
  pub leaves : LineLeaves (run s before) p hd (step (run s before) last.actor last.event).reply left
  -- since then the client did not exit, the handle was not closed, and no line read of it was collected;
  pub goes_on : ends_in (moved (run s before) last) p hd later ≡ false
  -- and what followed is what reads answered since then, in order, and then what is left.
  pub once : left ≡ takes_in (moved (run s before) last) p hd later ++ rest

-- ---- a handle that was closed

-- client c begins a read of handle hd of client p
abbrev pub begins : ℕ → ℕ → ℕ → Event → Reply → Bool
begins c p hd (events.Begin w) reply = (c == p) && ((handle_of w == hd) && not (is_fail reply))
begins c p hd _ reply = false

abbrev pub begins_in : State → ℕ → ℕ → List Entry → Bool
begins_in s p hd [] = false
begins_in s p hd (x ∷ xs) = begins (client_of x.actor) p hd x.event (step s x.actor x.event).reply || begins_in (moved s x) p hd xs

-- client p closes handle hd
abbrev pub closes_it : State → ℕ → ℕ → Actor → Call → Bool
closes_it s p hd a call = closes (client_of a) p hd call (step s a (events.Call call)).reply

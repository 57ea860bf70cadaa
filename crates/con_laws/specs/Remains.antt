-- What is left of a line for further reads of a handle: whose it is, and that each unit of it is answered once.
use Rattle.std.specs.Prelude.{flat_map, option_map, slice_get, ◌≡◌, ℕ, ◌==◌, ◌&&◌, Bool, false, not, List, [], ◌∷◌, ◌++◌, Option, Some, if◌then◌else◌}
use Rattle.std.specs.List.{list_any}
use Rattle.std.specs.Option.{option_map_or}
use Rattle.con_events.specs.declared.call.Call.TheVariants as calls
use Rattle.con_events.specs.declared.entry.Entry.{Entry}
use Rattle.con_events.specs.declared.event.Event.{Event}
use Rattle.con_events.specs.declared.event.Event.TheVariants as events
use Rattle.con_events.specs.declared.reply.Reply.{Reply}
use Rattle.con_events.specs.declared.reply.Reply.TheVariants as replies
use Rattle.con_readers.specs.declared.answer.Answer.TheVariants as answers
use Rattle.con_readers.specs.declared.open.OpenRead.{OpenRead}
use Rattle.con_readers.specs.declared.open.OpenRead.TheVariants as reads
use Rattle.con_machine.specs.State.{State, noted_of}
use Rattle.con_laws.specs.Answers.{read_opened}
use Rattle.con_machine.specs.Client.{is_fail}
use Rattle.con_machine.specs.History.{run}
use Rattle.con_machine.specs.Step.{step, client_of}
use Rattle.con_machine.specs.Turns.{moved}
use Rattle.con_events.specs.declared.event.Wanted.{Wanted}
use Rattle.con_events.specs.declared.event.Wanted.TheVariants as wanted
use Rattle.con_readers.specs.Reads.{answer_in, place_of}

-- the events of a client in a history, each with the console in which it stands, and its reply
unfoldable pub own : State → ℕ → List Entry → List (State × Event × Reply)
own s p [] = []
own s p (x ∷ xs) =
    if client_of x.actor == p then (s, x.event, (step s x.actor x.event).reply) ∷ own (moved s x) p xs else own (moved s x) p xs

abbrev pub handle_of : Wanted → ℕ
handle_of (wanted.Read h n) = h
handle_of (wanted.ReadWith h n initial mask) = h
handle_of (wanted.ReadInput h n) = h

-- what a read that begins so answers at once
abbrev pub at_once : Option OpenRead → List ℕ
at_once (Some (reads.Done (answers.Units units))) = units
at_once _ = []

-- of what was left for handle hd of client p, an event of it answers these: a read of that handle that is not refused, and is done as it begins
abbrev pub takes : ℕ → ℕ → State → Event → Reply → List ℕ
takes p hd s (events.Begin w) reply = if (handle_of w == hd) && not (is_fail reply) then at_once (read_opened s p w) else []
takes p hd s _ reply = []

-- client p closes handle hd, or collects a line read of that handle, or exits
abbrev pub ends : ℕ → ℕ → State → Event → Reply → Bool
ends p hd s (events.Call (calls.Close h)) reply = (h == hd) && not (is_fail reply)
ends p hd s events.Collect (replies.Units units) = option_map_or (λ n. n.handle == hd) (noted_of s.noted p) false
ends p hd s (events.Exit status) reply = not (is_fail reply)
ends p hd s _ reply = false

-- A Collect of a line read of this handle answered the front of its text, and this followed.
abbrev pub LineLeaves : State → ℕ → ℕ → Reply → List ℕ → Type 0
LineLeaves s p hd reply rest = (option_map (λ n. n.handle) (noted_of s.noted p) ≡ Some hd)
    × (units : List ℕ) × (reply ≡ replies.Units units) × (answer_in (slice_get s.reads (place_of s.reads p)) ≡ answers.Units (units ++ rest))

-- What is left for a handle of a client is of the last line read of that handle that the client collected:
pub record IsLeft (s : State) (h : List Entry) (p hd : ℕ) (rest : List ℕ) : Type 0 where
  pub before : List Entry
  pub last : Entry
  pub later : List Entry
  pub is : h ≡ before ++ last ∷ later
  pub client : client_of last.actor ≡ p
  pub collect : last.event ≡ events.Collect
  -- it answered the front of its text, and this followed;
  pub left : List ℕ
  pub leaves : LineLeaves (run s before) p hd (step (run s before) last.actor last.event).reply left
  -- since then the client did not exit, the handle was not closed, and no line read of it was collected;
  pub goes_on : list_any (λ x. ends p hd x.0 x.1 x.2) (own (moved (run s before) last) p later) ≡ false
  -- and what followed is what reads answered since then, in order, and then what is left.
  pub once : left ≡ flat_map (λ x. takes p hd x.0 x.1 x.2) (own (moved (run s before) last) p later) ++ rest

-- The console in the lock. A log of it has an entry for each event that was ready where it stood; another event does nothing.
use Rattle.std.specs.Prelude.{◌≡◌, ℕ, ◌<◌, Bool, true, List, [], ◌∷◌, ◌++◌, map, Option, Some, None, vec_len, vec_capacity, if◌then◌else◌}
use Rattle.con_units.specs.Words.Limits.{IsWindow}
use Rattle.con_units.specs.Words.View.{IsWhole}
use Rattle.con_book.specs.History.{after, is_legal}
use Rattle.con_book.specs.declared.history.Logged.{Logged}
use Rattle.con_events.specs.declared.actor.Actor.{Actor}
use Rattle.con_events.specs.declared.actor.Actor.TheVariants as actors
use Rattle.con_events.specs.declared.entry.Entry.{Entry}
use Rattle.con_events.specs.declared.event.Event.{Event}
use Rattle.con_events.specs.declared.event.Event.TheVariants as events
use Rattle.con_events.specs.declared.reply.Reply.{Reply}
use Rattle.con_events.specs.declared.reply.Reply.TheVariants as replies
use Rattle.con_machine.specs.History.{run, replies_of}
use Rattle.con_machine.specs.Marks.{AreMarks}
use Rattle.con_machine.specs.Numbered.{actor_of, ready_of, fits_of, blank_state}
use Rattle.con_machine.specs.State.{State}
use Rattle.con_machine.specs.Step.{step, is_ready}
use Rattle.con_machine.specs.declared.rooms.room.Room.{Room}
use Rattle.con_actors.specs.Desk.{listed}
use Rattle.con_actors.specs.Words.Desk.{brief_of, entry}
use Rattle.con_actors.specs.Painting.{Pictures}
use Rattle.con_actors.specs.declared.desk.Brief.{Brief}
use Rattle.con_actors.specs.declared.desk.Brief.TheVariants as briefs
use Rattle.con_threads.specs.declared.ledger.Ledger.{Ledger}
use Rattle.con_threads.specs.declared.ledger.LedgerView.{LedgerView}
use Rattle.con_threads.specs.declared.ledger.Told.{Told}
use Rattle.con_threads.specs.declared.ledger.Told.TheVariants as tolds

-- the entry of an event, where it is ready
abbrev pub logged_front : State → Option Actor → Event → List Entry
logged_front s None e = []
logged_front s (Some a) e = if is_ready s a e then entry a e ∷ [] else []

-- the entries of a log
abbrev pub logged_entries : State → List (Logged Event) → List Entry
logged_entries s [] = []
logged_entries s (x ∷ xs) = logged_front s (actor_of x.actor) x.event ++ logged_entries (run s (logged_front s (actor_of x.actor) x.event)) xs

-- a console and what it answered, after more entries
abbrev pub paged : LedgerView → List Entry → LedgerView
paged p h = record { state = run p.state h; replies = p.replies ++ map listed (replies_of p.state h) }

abbrev pub next_page : LedgerView → ℕ → Event → LedgerView
next_page p n e = paged p (logged_front p.state (actor_of n) e)

-- what a client looks at in what it was told
abbrev pub brief_told : Told → Brief
brief_told (tolds.Brief b) = b
brief_told (tolds.Picture p) = briefs.Fine

abbrev pub brief_by : State → Option Actor → Event → Brief
brief_by s None e = briefs.Fine
brief_by s (Some a) e = brief_of (step s a e).reply

-- a Paint is answered by its picture
abbrev pub IsPicture : Told → State → Type 0
IsPicture (tolds.Brief b) s = ⊥
IsPicture (tolds.Picture p) s = Pictures p.view p.fresh s × IsWhole p.view × IsWindow p.view.size.w p.view.size.h × AreMarks s p.marks

abbrev pub TellsPicture : Told → State → Option Actor → Event → Type 0
TellsPicture t s None e = Unit {0}
TellsPicture t s (Some a) events.Paint = IsPicture t s
TellsPicture t s (Some a) e = Unit {0}

-- ---- the same by an actor's number, as a book reads them

abbrev pub page_of : Ledger → LedgerView
page_of l = record { state = l.console.state; replies = l.replies.items }

abbrev pub blank_page : LedgerView
blank_page = record { state = blank_state; replies = [] }

abbrev pub page_ready : LedgerView → ℕ → Event → Bool
page_ready p n e = ready_of p.state (actor_of n) e

abbrev pub page_brief : LedgerView → ℕ → Event → Brief
page_brief p n e = brief_by p.state (actor_of n) e

abbrev pub page_tells : Told → LedgerView → ℕ → Event → Type 0
page_tells t p n e = TellsPicture t p.state (actor_of n) e

-- room for an event: the console's, a place for its reply, and one for its entry
pub record HasRoom (room : Room) (l : Ledger) (n : ℕ) (e : Event) : Type 0 where
  pub console : fits_of room l.console (actor_of n) e
  pub reply : vec_len l.replies < vec_capacity l.replies
  pub entry' : vec_len l.replies < vec_capacity l.entries

-- what is told of a reply
abbrev pub told_of : Reply → Told
told_of (replies.View v marks fresh) = tolds.Picture (record { view = v; marks = marks; fresh = fresh })
told_of r = tolds.Brief (brief_of r)

-- ---- a closed book's log

abbrev pub actor_or : Option Actor → Actor
actor_or None = actors.Terminal
actor_or (Some a) = a

-- what an event of a log is listed as. Only an actor's event is ever ready
abbrev pub entry_by : ℕ → Event → Entry
entry_by n e = entry (actor_or (actor_of n)) e

-- a ledger that had no reply and now stands behind this log, in which each event was ready where it stands
pub record IsLogOf (start : LedgerView) (log : List (Logged Event)) (page : LedgerView) : Type 0 where
  pub none_before : start.replies ≡ []
  pub page' : page ≡ after next_page start log
  pub legal : is_legal next_page page_ready start log ≡ true

-- A session by turns, between its turns and between its rounds.
use Rattle.std.specs.Prelude.{◌≡◌, ◌⊎◌, ℕ, ◌+◌, ◌<◌, Bool, true, false, List, [], ◌++◌, length, map, Option, Result, Ok, Err}
use Rattle.con_handlers.specs.Memory.{Memory}
use Rattle.con_units.specs.declared.code.OutOfMemory.{OutOfMemory}
use Rattle.con_link.specs.LinkReading.{LinkReading, plainly}
use Rattle.con_paint.specs.Painter.{Kept}
use Rattle.con_events.specs.Session.{Clients}
use Rattle.con_events.specs.declared.end.End.{End}
use Rattle.con_events.specs.declared.end.End.TheVariants as ends
use Rattle.con_events.specs.declared.entry.Entry.{Entry}
use Rattle.con_events.specs.declared.event.Event.{Event}
use Rattle.con_events.specs.declared.reply.Reply.{Reply}
use Rattle.con_events.specs.declared.script.Script.{Script}
use Rattle.con_machine.specs.Words.Along.{after}
use Rattle.con_machine.specs.Follows.{AreAnswered, are_of_session, session_start}
use Rattle.con_machine.specs.Words.Follows.{asks}
use Rattle.con_machine.specs.History.{run, is_legal, replies_of}
use Rattle.con_laws.specs.Rounds.{Begun}
use Rattle.con_laws.specs.RoundWords.{AreTurns, AreRounds, all_entries, all_order, round_entries, is_nobody}
use Rattle.con_machine.specs.State.{State}
use Rattle.con_machine.specs.Turns.{paints}
use Rattle.con_actors.specs.Desk.{listed}
use Rattle.con_actors.specs.Words.Desk.{Stands}
use Rattle.con_actors.specs.Painting.{CanvasIs, CanvasEnds}
use Rattle.con_actors.specs.Seats.{AllStandBy}
use Rattle.con_actors.specs.Words.Sender.{LinkBy, LinkEndsBy, NoMore}
use Rattle.con_actors.specs.Standing.{ClientStands}
use Rattle.con_actors.specs.declared.side.Side.{Side}
use Rattle.con_actors.specs.declared.worker.Worker.{Worker}

-- what is seen of a session at a moment: the console and its history, the clients, the terminal's side with its link, and the painter with the terminal
pub record Moment : Type 0 where
  pub state : State
  pub entries : List Entry
  pub replies : List Reply
  pub workers : List Worker
  pub places : List (List ℕ)
  pub memories : List (List Memory)
  pub slots : List (List ℕ)
  pub side : Side
  pub taken : ℕ
  pub left : Option (List ℕ)
  pub kept : Kept
  pub ends : List ℕ
  pub end : ℕ
  pub failed : Bool
  pub written : Option (List ℕ)

-- what was asked for was painted before the terminal's side went on, unless it may be missing
pub record AsksStand (b : Begun) (h : List Entry) (lost : Bool) : Type 0 where
  pub answered : (l : Bool) → (lost ≡ true → l ≡ true) → AreAnswered l h
  pub asked' : after asks false h ≡ (run b.state h).asked

-- what holds between two turns; of the link this was left at the beginning, and to the terminal this was written
pub record HoldsBy (R : LinkReading) (More : List R.One → List Entry → Type 0) (b : Begun) (scripts : List Script)
    (before old : Option (List ℕ)) (m : Moment) : Type 0 where
  pub scripts' : scripts ≡ b.session.scripts
  pub stands : Stands b.state m.state m.entries m.replies
  pub numbered : are_of_session (length b.session.scripts) m.entries ≡ true
  pub clients : AllStandBy b m.state m.entries scripts m.workers m.places m.memories m.slots
  pub link : LinkBy R More m.entries m.side m.failed before m.left m.taken
  pub asks : AsksStand b m.entries m.failed
  pub pieces : List (List ℕ)
  pub canvas : CanvasIs b m.entries b.session.size m.kept pieces m.ends m.end old m.written m.failed
  pub some : m.failed ≡ true → 0 < paints m.entries

abbrev pub Holds : Begun → List Script → Option (List ℕ) → Option (List ℕ) → Moment → Type 0
Holds b scripts before old m = HoldsBy plainly NoMore b scripts before old m

-- a session's beginning
abbrev pub begins : Clients → List (List ℕ) → Option ℕ → Begun
begins session racks f = record { state = session_start session racks; session = session; racks = racks; failed = f }

-- the same beginning, where the terminal counts as failed from this Paint on
abbrev pub fails_at : Begun → Option ℕ → Begun
fails_at b f = record { state = b.state; session = b.session; racks = b.racks; failed = f }

-- the history is whole rounds, in each of which somebody acted
abbrev pub HasRounds : Begun → List Entry → Type 0
HasRounds b h = (rounds : List (List (Option Event))) × AreRounds b [] rounds × (h ≡ all_entries (all_order b) rounds)

-- what holds between two rounds: besides, no Ask is out
pub record GoesBy (R : LinkReading) (More : List R.One → List Entry → Type 0) (b : Begun) (scripts : List Script)
    (before old : Option (List ℕ)) (m : Moment) : Type 0 where
  pub holds : HoldsBy R More b scripts before old m
  pub served : (m.state.asked ≡ false) ⊎ (m.failed ≡ true)
  pub rounds : HasRounds b m.entries

abbrev pub Goes : Begun → List Script → Option (List ℕ) → Option (List ℕ) → Moment → Type 0
Goes b scripts before old m = GoesBy plainly NoMore b scripts before old m

-- nobody has anything to do
abbrev pub AllIdle : Begun → List Entry → Type 0
AllIdle b h = (last : List (Option Event)) × AreTurns false b h (all_order b) last × (is_nobody last ≡ true)

-- whole rounds, and one that breaks off
abbrev pub BreaksOff : Begun → List Entry → Type 0
BreaksOff b h = (rounds : List (List (Option Event))) × (last : List (Option Event)) × AreRounds b [] rounds
    × AreTurns true b (all_entries (all_order b) rounds) (all_order b) last
    × (h ≡ all_entries (all_order b) rounds ++ round_entries (all_order b) last)

-- what holds where there was no memory
pub record StopsBy (R : LinkReading) (More : List R.One → List Entry → Type 0) (b : Begun) (before old : Option (List ℕ)) (h : List Entry) (rs : List Reply)
    (ends : List ℕ) (left written : Option (List ℕ)) (failed : Bool) : Type 0 where
  pub legal : is_legal b.state h ≡ true
  pub replies : rs ≡ map listed (replies_of b.state h)
  pub numbered : are_of_session (length b.session.scripts) h ≡ true
  pub clients : (k : ℕ) → k < length b.session.scripts → ClientStands b h (k + 1)
  pub link : LinkEndsBy R More h before left
  pub canvas : CanvasEnds b h b.session.size ends old written
  pub some : failed ≡ true → 0 < paints h
  pub rounds : BreaksOff b h

-- a round after a history: false where nobody had anything to do
abbrev pub RoundTurnBy : (R : LinkReading) (More Then : List R.One → List Entry → Type 0)
    → Result Bool OutOfMemory → Begun → List Script → Option (List ℕ) → Option (List ℕ) → List Entry → Moment → Type 0
RoundTurnBy R More Then (Ok true) b scripts before old h m = GoesBy R More b scripts before old m × (length h < length m.entries)
RoundTurnBy R More Then (Ok false) b scripts before old h m = GoesBy R More b scripts before old m × AllIdle b m.entries
RoundTurnBy R More Then (Err e) b scripts before old h m = StopsBy R Then b before old m.entries m.replies m.ends m.left m.written m.failed

abbrev pub RoundTurn : Result Bool OutOfMemory → Begun → List Script → Option (List ℕ) → Option (List ℕ) → List Entry → Moment → Type 0
RoundTurn result b scripts before old h m = RoundTurnBy plainly NoMore NoMore result b scripts before old h m

-- rounds until nobody has anything to do
abbrev pub RoundsTurnBy : (R : LinkReading) (More Then : List R.One → List Entry → Type 0)
    → Result (Unit {0}) OutOfMemory → Begun → List Script → Option (List ℕ) → Option (List ℕ) → Moment → Type 0
RoundsTurnBy R More Then (Ok done) b scripts before old m = GoesBy R More b scripts before old m × AllIdle b m.entries
RoundsTurnBy R More Then (Err e) b scripts before old m = StopsBy R Then b before old m.entries m.replies m.ends m.left m.written m.failed

abbrev pub RoundsTurn : Result (Unit {0}) OutOfMemory → Begun → List Script → Option (List ℕ) → Option (List ℕ) → Moment → Type 0
RoundsTurn result b scripts before old m = RoundsTurnBy plainly NoMore NoMore result b scripts before old m

-- a terminal that has failed ends the session before the link does
abbrev pub end_by : Bool → End → End
end_by true end = ends.Term
end_by false end = end

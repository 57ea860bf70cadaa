-- All clients in their seats, and a turn of each.
use Rattle.std.specs.Prelude.{◌≡◌, ℕ, ◌+◌, ◌<◌, Bool, true, false, not, List, ◌++◌, Option, Some, slice_get, Result, Ok, Err}
use Rattle.con_units.specs.declared.code.OutOfMemory.{OutOfMemory}
use Rattle.con_events.specs.declared.entry.Entry.{Entry}
use Rattle.con_events.specs.declared.event.Event.{Event}
use Rattle.con_events.specs.declared.reply.Reply.{Reply}
use Rattle.con_events.specs.declared.script.Script.{Script}
use Rattle.con_handlers.specs.Memory.{Memory}
use Rattle.con_laws.specs.Rounds.{Begun}
use Rattle.con_laws.specs.RoundWords.{AreTurns, clients_from, round_entries, is_nobody}
use Rattle.con_machine.specs.State.{State}
use Rattle.con_actors.specs.Words.Desk.{Stands}
use Rattle.con_actors.specs.Standing.{ClientStands}
use Rattle.con_actors.specs.Words.Worker.{ClientIs, HandsStandBy}
use Rattle.con_actors.specs.declared.worker.Worker.{Worker}

-- client k + 1 in its seat
pub record Seated (b : Begun) (k : ℕ) (s : State) (h : List Entry) (script : Script) (w : Worker) (places : List ℕ)
    (ms : List Memory) (slots : List ℕ) : Type 0 where
  pub is : ClientIs b (k + 1) s h script.steps w
  pub hands : HandsStandBy b (k + 1) h places ms slots

-- every client in its seat
abbrev pub AllStandBy : Begun → State → List Entry → List Script → List Worker → List (List ℕ) → List (List Memory) → List (List ℕ) → Type 0
AllStandBy b s h scripts ws places ms slots = (k : ℕ) (script : Script) (w : Worker) (xs : List ℕ) (m : List Memory) (ys : List ℕ)
    → slice_get scripts k ≡ Some script → slice_get ws k ≡ Some w → slice_get places k ≡ Some xs → slice_get ms k ≡ Some m → slice_get slots k ≡ Some ys
    → Seated b k s h script w xs m ys

-- the first n clients had their turns in a round, one after another; where it may break off, the last of them may have had none
pub record HaveTurns (broken : Bool) (b : Begun) (s t : State) (h g : List Entry) (rs qs : List Reply) (n : ℕ) : Type 0 where
  pub turns : List (Option Event)
  pub are : AreTurns broken b h (clients_from 0 n) turns
  pub entries : g ≡ h ++ round_entries (clients_from 0 n) turns
  pub stands : Stands b.state s h rs → Stands b.state t g qs

-- each of n clients follows its script
abbrev pub AllFollow : Begun → List Entry → ℕ → Type 0
AllFollow b h n = (k : ℕ) → k < n → ClientStands b h (k + 1)

-- the turns of n clients: whether one of them acted; where there is no memory they may break off
abbrev pub ClientsTurnBy : Result Bool OutOfMemory → Begun → State → State → List Entry → List Entry → List Reply → List Reply → ℕ → List Script
    → List Worker → List (List ℕ) → List (List Memory) → List (List ℕ) → Type 0
ClientsTurnBy (Ok acted) b s t h g rs qs n scripts ws places ms slots = (had : HaveTurns false b s t h g rs qs n) × (is_nobody had.turns ≡ not acted)
    × AllStandBy b t g scripts ws places ms slots
ClientsTurnBy (Err e) b s t h g rs qs n scripts ws places ms slots = HaveTurns true b s t h g rs qs n × AllFollow b g n

-- The words of clients over the structs that hold their handlers. `memory` is what a box remembers; above this crate it is `boxed memory`.
use Rattle.std.specs.Prelude.{ℕ, Bool, List, map, get_or, Option, Result}
use Rattle.std.specs.Option.{option_map}
use Rattle.con_units.specs.declared.code.OutOfMemory.{OutOfMemory}
use Rattle.con_events.specs.declared.entry.Entry.{Entry}
use Rattle.con_events.specs.declared.reply.Reply.{Reply}
use Rattle.con_events.specs.declared.script.Script.{Script}
use Rattle.con_events.specs.declared.script.Step.{Step}
use Rattle.con_handlers.specs.Boxes.{Remembers}
use Rattle.con_handlers.specs.Memory.{Memory}
use Rattle.con_machine.specs.Chain.{Handler}
use Rattle.con_laws.specs.Rounds.{Begun}
use Rattle.con_machine.specs.State.{State}
use Rattle.con_actors.specs.DoorTurns.{HasTakenBy, HasTurnedBy}
use Rattle.con_actors.specs.Opening.{AreFreshBy}
use Rattle.con_actors.specs.Seats.{AllStandBy, ClientsTurnBy}
use Rattle.con_actors.specs.Solo.{Moment}
use Rattle.con_actors.specs.Words.Worker.{HandsAreBy, HandsStandBy, HandsTurnBy, told_in}
use Rattle.con_actors.specs.declared.hands.Hands.{Hands}
use Rattle.con_actors.specs.declared.seat.Seat.{Seat}
use Rattle.con_actors.specs.declared.stage.Stage.{Stage}
use Rattle.con_actors.specs.declared.worker.Worker.{Worker}

-- ---- the handlers of one client

-- what the handlers of the chain remember
abbrev pub in_chain : {X : Type 0} {V : X → Type 0} → Remembers X V → Hands X V → List Memory
in_chain memory hands = map memory hands.chain.handlers.items

-- what the places of the rack hold
abbrev pub in_rack : {X : Type 0} {V : X → Type 0} → Remembers X V → Hands X V → List ℕ
in_rack memory hands = map (λ o. told_in (option_map memory o)) hands.rack.items

-- what one place holds
abbrev pub at_place : {X : Type 0} {V : X → Type 0} → Remembers X V → Hands X V → ℕ → ℕ
at_place memory hands place = get_or (in_rack memory hands) place 0

-- the handlers are those of the chain, unless one of them told nothing of its answers
abbrev pub HandsAre : {X : Type 0} {V : X → Type 0} → List Handler → Bool → Remembers X V → Hands X V → Type 0
HandsAre hs doubtful memory hands = HandsAreBy hs doubtful hands.places.items (in_chain memory hands)

-- the handlers of client p behind a history
abbrev pub HandsStand : {X : Type 0} {V : X → Type 0} → Begun → ℕ → List Entry → Remembers X V → Hands X V → Type 0
HandsStand b p h memory hands = HandsStandBy b p h hands.places.items (in_chain memory hands) (in_rack memory hands)

-- a turn of a client with its handlers
abbrev pub HandsTurn : {X : Type 0} {V : X → Type 0} → Result Bool OutOfMemory → Begun → ℕ → State → State → List Entry → List Entry → List Reply
    → List Reply → List Step → Worker → Remembers X V → Hands X V → Type 0
HandsTurn result b p s t h g rs qs steps w memory hands =
    HandsTurnBy result b p s t h g rs qs steps w hands.places.items (in_chain memory hands) (in_rack memory hands)

-- a turn of a client at a door, with its handlers
abbrev pub HasTurned : {X : Type 0} {V : X → Type 0} → (List Entry → Type 0) → Result Bool OutOfMemory → Begun → ℕ → List Step → List Entry → List Entry
    → Worker → Remembers X V → Hands X V → Type 0
HasTurned May result b p steps h g w memory hands = HasTurnedBy May result b p steps h g w hands.places.items (in_chain memory hands) (in_rack memory hands)

-- whether it took a control event, and asked its handlers
abbrev pub HasTaken : {X : Type 0} {V : X → Type 0} → (List Entry → Type 0) → Result Bool OutOfMemory → Begun → ℕ → List Step → List Entry → List Entry
    → Worker → Remembers X V → Hands X V → Type 0
HasTaken May result b p steps h g w memory hands = HasTakenBy May result b p steps h g w hands.places.items (in_chain memory hands) (in_rack memory hands)

-- ---- all clients

-- every client in its seat
abbrev pub AllStand : {X : Type 0} {V : X → Type 0} → Begun → State → List Entry → List Script → Remembers X V → List (Seat X V) → Type 0
AllStand b s h scripts memory seats =
    AllStandBy b s h scripts (map (λ x. x.worker) seats) (map (λ x. x.hands.places.items) seats) (map (λ x. in_chain memory x.hands) seats)
    (map (λ x. in_rack memory x.hands) seats)

-- the turns of n clients: whether one of them acted; where there is no memory they may break off
abbrev pub ClientsTurn : {X : Type 0} {V : X → Type 0} → Result Bool OutOfMemory → Begun → State → State → List Entry → List Entry → List Reply
    → List Reply → ℕ → List Script → Remembers X V → List (Seat X V) → Type 0
ClientsTurn result b s t h g rs qs n scripts memory seats =
    ClientsTurnBy result b s t h g rs qs n scripts (map (λ x. x.worker) seats) (map (λ x. x.hands.places.items) seats)
    (map (λ x. in_chain memory x.hands) seats) (map (λ x. in_rack memory x.hands) seats)

-- the clients from k + 1 on have entered nothing, each with the rack of its number, if there is one
abbrev pub AreFresh : {X : Type 0} {V : X → Type 0} → Remembers X V → List (List ℕ) → ℕ → List (Seat X V) → Type 0
AreFresh memory racks k seats =
    AreFreshBy (λ x. x.worker) (λ x. x.hands.places.items) (λ x. in_chain memory x.hands) (λ x. in_rack memory x.hands) racks k seats

-- what is seen of a session by its stage and its seats; of the link this is left, and to the terminal this was written
abbrev pub moment : {X : Type 0} {V : X → Type 0} → Remembers X V → Stage → List (Seat X V) → Option (List ℕ) → Option (List ℕ) → Moment
moment memory stage seats left written = record {
  state = stage.desk.console.state;
  entries = stage.desk.entries.items;
  replies = stage.desk.replies.items;
  workers = map (λ x. x.worker) seats;
  places = map (λ x. x.hands.places.items) seats;
  memories = map (λ x. in_chain memory x.hands) seats;
  slots = map (λ x. in_rack memory x.hands) seats;
  side = stage.side;
  taken = stage.reader;
  left = left;
  kept = stage.canvas.painter;
  ends = stage.canvas.ends.items;
  end = stage.canvas.end;
  failed = stage.canvas.failed;
  written = written;
}

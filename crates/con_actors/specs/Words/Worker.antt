-- The words of the code and of laws about Worker, which a reader need not believe.
use Rattle.std.specs.Prelude.{◌≡◌, ◌⊎◌, ℕ, ◌==◌, ◌&&◌, Bool, true, false, not, List, [], ◌∷◌, drop, map, get_or, Option, Some, None, Result, Ok, Err, nat_lt}
use Rattle.std.specs.List.{list_all, list_any}
use Rattle.con_units.specs.declared.code.OutOfMemory.{OutOfMemory}
use Rattle.con_events.specs.declared.actor.Actor.TheVariants as actors
use Rattle.con_events.specs.declared.call.Call.{Call}
use Rattle.con_events.specs.declared.call.Call.TheVariants as calls
use Rattle.con_events.specs.declared.entry.Entry.{Entry}
use Rattle.con_events.specs.declared.event.Event.{Event}
use Rattle.con_events.specs.declared.reply.Reply.{Reply}
use Rattle.con_events.specs.declared.script.Step.{Step}
use Rattle.con_handlers.specs.Memory.{Memory}
use Rattle.con_machine.specs.Added.{has_added}
use Rattle.con_machine.specs.Chain.{Handler}
use Rattle.con_machine.specs.Client.{Client, Stance, GoesOn, MayLeave, MustLeave, Gone, MayBy}
use Rattle.con_machine.specs.History.{run}
use Rattle.con_laws.specs.Rounds.{Begun, client_at}
use Rattle.con_laws.specs.RoundWords.{IsTurn}
use Rattle.con_machine.specs.State.{State}
use Rattle.con_machine.specs.Step.{is_ready}
use Rattle.con_machine.specs.Turns.{Turn, turns}
use Rattle.con_actors.specs.Words.Desk.{Enters, Rests}
use Rattle.con_actors.specs.Standing.{ClientStands}
use Rattle.con_actors.specs.Worker.{told_kind}
use Rattle.con_actors.specs.declared.worker.Worker.{Worker}

abbrev pub IsStance : Stance → Bool → Bool → Type 0
IsStance GoesOn leaving gone = (leaving ≡ false) × (gone ≡ false)
IsStance MayLeave leaving gone = gone ≡ false
IsStance MustLeave leaving gone = (leaving ≡ true) × (gone ≡ false)
IsStance Gone leaving gone = gone ≡ true

-- a call that adds or removes a handler
abbrev pub is_handlers : Call → Bool
is_handlers (calls.HandlerAdd place) = true
is_handlers (calls.HandlerRemove place) = true
is_handlers _ = false

-- the handlers are those of the chain, unless one of them told nothing of its answers
pub record HandsAreBy (hs : List Handler) (doubtful : Bool) (places : List ℕ) (ms : List Memory) : Type 0 where
  pub places' : doubtful ≡ false → map (λ h. h.place) hs ≡ places
  pub kinds : doubtful ≡ false → map (λ h. h.kind) hs ≡ map (λ m. m.kind) ms
  pub asked : doubtful ≡ false → map (λ h. h.asked) hs ≡ map (λ m. m.asked) ms
  pub known : doubtful ≡ false → list_all (λ m. nat_lt 0 m.kind) ms ≡ true

-- ---- the rack

-- what a place of the rack holds: 0 where nothing is left
abbrev pub told_in : Option Memory → ℕ
told_in None = 0
told_in (Some m) = told_kind m

abbrev pub places_in : List Handler → List ℕ
places_in hs = map (λ h. h.place) hs

-- no number stands twice
abbrev pub stand_once : List ℕ → Bool
stand_once [] = true
stand_once (x ∷ xs) = not (list_any (λ y. y == x) xs) && stand_once xs

-- what is left of a rack of these kinds after a client's entries, where its chain has these places
pub record IsRack (ts : List Turn) (kinds slots places : List ℕ) : Type 0 where
  -- a place that was not added holds its handler
  pub left : (i : ℕ) → has_added i ts ≡ false → get_or slots i 0 ≡ get_or kinds i 0
  -- those of the chain were added, each once
  pub added : list_all (λ i. has_added i ts) places ≡ true
  pub once : stand_once places ≡ true

-- the handlers of client p behind a history
pub record HandsStandBy (b : Begun) (p : ℕ) (h : List Entry) (places : List ℕ) (ms : List Memory) (slots : List ℕ) : Type 0 where
  pub chain : HandsAreBy (client_at b h p).chain (client_at b h p).doubtful places ms
  pub rack : IsRack (turns b.state p h) (client_at b h p).kinds slots (places_in (client_at b h p).chain)

-- ---- the worker

-- a client as its worker keeps it
pub record IsWorker (c : Client) (steps : List Step) (w : Worker) : Type 0 where
  pub left : c.left ≡ drop w.at steps
  pub reading : c.reading ≡ w.reading
  pub stance : IsStance c.stance w.leaving w.gone

-- a client, its worker and the console behind a history
pub record ClientIs (b : Begun) (p : ℕ) (s : State) (h : List Entry) (steps : List Step) (w : Worker) : Type 0 where
  pub state : s ≡ run b.state h
  pub stands : ClientStands b h p
  pub worker : IsWorker (client_at b h p) steps w

-- the handlers are as before
pub record Keeps (c d : Client) : Type 0 where
  pub kinds : d.kinds ≡ c.kinds
  pub chain : d.chain ≡ c.chain
  pub doubtful : d.doubtful ≡ c.doubtful

-- the client entered the event of its turn, which it may enter
pub record Acts (b : Begun) (p : ℕ) (s t : State) (h g : List Entry) (rs qs : List Reply) : Type 0 where
  pub event : Event
  pub enters : Enters s t h g rs qs (actors.Client p) event
  pub ready : is_ready s (actors.Client p) event ≡ true
  pub may : MayBy (client_at b h p).stance (client_at b h p) event
  pub turn : IsTurn b h (actors.Client p) (Some event)

-- a turn of a client with its handlers: false where it has nothing to do; where there is no memory, it may have entered its event
abbrev pub HandsTurnBy : Result Bool OutOfMemory → Begun → ℕ → State → State → List Entry → List Entry → List Reply → List Reply → List Step → Worker
    → List ℕ → List Memory → List ℕ → Type 0
HandsTurnBy (Ok true) b p s t h g rs qs steps w places ms slots = Acts b p s t h g rs qs × IsWorker (client_at b g p) steps w
    × HandsStandBy b p g places ms slots
HandsTurnBy (Ok false) b p s t h g rs qs steps w places ms slots = Rests s t h g rs qs × IsTurn b h (actors.Client p) None
    × IsWorker (client_at b h p) steps w × HandsStandBy b p h places ms slots
HandsTurnBy (Err e) b p s t h g rs qs steps w places ms slots = Rests s t h g rs qs ⊎ Acts b p s t h g rs qs

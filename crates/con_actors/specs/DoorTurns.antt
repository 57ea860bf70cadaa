-- A client's turn at a door.
use Rattle.std.specs.Prelude.{◌≡◌, ◌⊎◌, ℕ, Bool, true, false, List, [], ◌∷◌, ◌++◌, drop, Some, None, Result, Ok, Err}
use Rattle.con_units.specs.declared.code.OutOfMemory.{OutOfMemory}
use Rattle.con_events.specs.declared.actor.Actor.TheVariants as actors
use Rattle.con_events.specs.declared.entry.Entry.{Entry}
use Rattle.con_events.specs.declared.event.Event.{Event}
use Rattle.con_events.specs.declared.event.Event.TheVariants as events
use Rattle.con_events.specs.declared.script.Step.{Step}
use Rattle.con_handlers.specs.Memory.{Memory}
use Rattle.con_machine.specs.Client.{MayBy, next_event}
use Rattle.con_machine.specs.History.{run}
use Rattle.con_laws.specs.Rounds.{Begun, client_at}
use Rattle.con_laws.specs.RoundWords.{IsTurn}
use Rattle.con_machine.specs.Step.{is_ready}
use Rattle.con_actors.specs.Words.Desk.{entry}
use Rattle.con_actors.specs.Door.{Saw}
use Rattle.con_actors.specs.Standing.{ClientStands}
use Rattle.con_actors.specs.Words.Worker.{IsWorker, HandsStandBy}
use Rattle.con_actors.specs.declared.worker.Worker.{Worker}

-- client p follows its script, and its worker keeps it
pub record ClientAt (b : Begun) (p : ℕ) (h : List Entry) (steps : List Step) (w : Worker) : Type 0 where
  pub stands : ClientStands b h p
  pub worker : IsWorker (client_at b h p) steps w

-- no control event of it is pending
abbrev pub IsQuiet : Begun → ℕ → List Entry → Type 0
IsQuiet b p h = is_ready (run b.state h) (actors.Client p) events.TakeCtrl ≡ false

-- the event of its next step
abbrev pub IsNext : List Step → Worker → Event → Type 0
IsNext steps w e = e ≡ next_event (drop w.at steps)

-- it may leave, and that is its turn
pub record MayExit (b : Begun) (p : ℕ) (h : List Entry) (status : ℕ) : Type 0 where
  pub may : MayBy (client_at b h p).stance (client_at b h p) (events.Exit status)
  pub turn : IsTurn b h (actors.Client p) (Some (events.Exit status))

-- It entered an event that it may enter, behind what others may have entered. Where they entered nothing, it was its turn.
pub record HasActed (May : List Entry → Type 0) (b : Begun) (p : ℕ) (h g : List Entry) : Type 0 where
  pub between : List Entry
  pub fits : May between
  pub event : Event
  pub entries' : g ≡ (h ++ between) ++ entry (actors.Client p) event ∷ []
  pub ready : is_ready (run b.state (h ++ between)) (actors.Client p) event ≡ true
  pub may : MayBy (client_at b h p).stance (client_at b h p) event
  pub turn : between ≡ [] → IsTurn b h (actors.Client p) (Some event)

-- It entered nothing. Where others entered nothing either, it had nothing to do.
pub record HasWaited (May : List Entry → Type 0) (b : Begun) (p : ℕ) (h g : List Entry) : Type 0 where
  pub saw : Saw May h g
  pub turn : saw.between ≡ [] → IsTurn b h (actors.Client p) None

-- A client's turn: whether it entered an event. Where there is no memory, it may have entered its event, and has not left.
abbrev pub HasTurnedBy : (List Entry → Type 0) → Result Bool OutOfMemory → Begun → ℕ → List Step → List Entry → List Entry → Worker
    → List ℕ → List Memory → List ℕ → Type 0
HasTurnedBy May (Ok true) b p steps h g w places ms slots = HasActed May b p h g × ClientAt b p g steps w × HandsStandBy b p g places ms slots
HasTurnedBy May (Ok false) b p steps h g w places ms slots = HasWaited May b p h g × ClientAt b p g steps w × HandsStandBy b p g places ms slots
HasTurnedBy May (Err e) b p steps h g w places ms slots = (Saw May h g ⊎ HasActed May b p h g) × ClientStands b g p × (w.gone ≡ false)

-- whether it took a control event; false: none is pending
abbrev pub HasTakenBy : (List Entry → Type 0) → Result Bool OutOfMemory → Begun → ℕ → List Step → List Entry → List Entry → Worker
    → List ℕ → List Memory → List ℕ → Type 0
HasTakenBy May (Ok true) b p steps h g w places ms slots = HasTurnedBy May (Ok true) b p steps h g w places ms slots
HasTakenBy May (Ok false) b p steps h g w places ms slots = Saw May h g × IsQuiet b p g × ClientAt b p g steps w × HandsStandBy b p g places ms slots
HasTakenBy May (Err e) b p steps h g w places ms slots = HasTurnedBy May (Err e) b p steps h g w places ms slots

-- What an event does to what a client knows of itself: whether it is attached, whether a read of it is open (begun and not
-- collected), and that a control event waits for it.
use Rattle.std.specs.Prelude.{◌≡◌, ◌≤◌, ℕ, Bool, true, false, if◌then◌else◌}
use Rattle.con_events.specs.declared.actor.Actor.{Actor}
use Rattle.con_events.specs.declared.actor.Actor.TheVariants as actors
use Rattle.con_events.specs.declared.event.Event.{Event}
use Rattle.con_events.specs.declared.event.Event.TheVariants as events
use Rattle.con_procs.specs.Procs.{is_attached}
use Rattle.con_readers.specs.Distinct.{processes_in, times_in}
use Rattle.con_readers.specs.Reads.{is_open}
use Rattle.con_machine.specs.State.{State}
use Rattle.con_machine.specs.Outcome.{Outcome}
use Rattle.con_machine.specs.Step.{step}
use Rattle.con_machine.specs.Turns.{is_client, is_pending}
use Rattle.con_machine.specs.Client.{is_fail}

-- The client stays attached or not, keeps its read, and loses no event that waits for it.
pub record Stays (p : ℕ) (s t : State) : Type 0 where
  pub attached : is_attached t.procs p ≡ is_attached s.procs p
  pub reading : is_open t.reads p ≡ is_open s.reads p
  pub pending : is_pending s p ≡ true → is_pending t p ≡ true

-- another's event leaves a client so
abbrev pub OthersStay : Type 0
OthersStay = (s : State) (a : Actor) (e : Event) (p : ℕ) → is_client p a ≡ false → Stays p s (step s a e).after

-- an Exit detaches, and no other event does
abbrev pub attached_by : Event → Bool
attached_by (events.Exit status) = false
attached_by _ = true

-- a Begin opens a read unless it was refused, and a Collect and an Exit take it away
abbrev pub reads_by : Bool → Event → Bool → Bool
reads_by reading (events.Begin w) refused = if refused then reading else true
reads_by reading events.Collect refused = false
reads_by reading (events.Exit status) refused = false
reads_by reading _ refused = reading

-- a client's own event
pub record Does (p : ℕ) (s : State) (e : Event) (o : Outcome) : Type 0 where
  pub attached : is_attached o.after.procs p ≡ attached_by e
  pub reading : is_open o.after.reads p ≡ reads_by (is_open s.reads p) e (is_fail o.reply)

-- a process has one read at most
abbrev pub IsSingle : State → ℕ → Type 0
IsSingle s p = times_in p (processes_in s.reads) ≤ 1

-- so does each client that is attached
abbrev pub OwnDoes : Type 0
OwnDoes = (s : State) (p : ℕ) (e : Event) → is_attached s.procs p ≡ true → IsSingle s p → Does p s e (step s (actors.Client p) e)

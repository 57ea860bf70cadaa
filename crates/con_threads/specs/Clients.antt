-- A client's thread.
use Rattle.std.specs.Prelude.{◌≡◌, ℕ, ◌≤◌, Bool, true, false, List, []}
use Rattle.con_events.specs.declared.actor.Actor.TheVariants as actors
use Rattle.con_events.specs.declared.entry.Entry.{Entry}
use Rattle.con_events.specs.declared.script.Step.{Step}
use Rattle.con_handlers.specs.Boxes.{Recalls, boxed}
use Rattle.con_handlers.specs.Memory.{Memory}
use Rattle.con_laws.specs.Rounds.{Begun, client_at}
use Rattle.con_actors.specs.Held.{in_chain, in_rack}
use Rattle.con_actors.specs.Standing.{ClientStands}
use Rattle.con_actors.specs.Words.Worker.{IsWorker, HandsStandBy}
use Rattle.con_actors.specs.declared.worker.Worker.{Worker}
use Rattle.con_threads.specs.Scribe.{IsScribe, IsSameScribe, opened, history}
use Rattle.con_threads.specs.declared.client.ClientThread.{ClientThread}
use Rattle.con_threads.specs.declared.scribe.Scribe.{Scribe}

-- Client p, as far as its thread has seen the history: it follows its script, and its thread keeps it as it is. Where the thread had
-- no memory behind an entry (`broken`), it keeps nothing more. A client that is gone has dropped its handlers.
pub record ClientGoes (b : Begun) (p : ℕ) (h : List Entry) (steps : List Step) (broken : Bool) (w : Worker) (places : List ℕ)
    (ms : List Memory) (slots : List ℕ) : Type 0 where
  pub stands : ClientStands b h p
  pub worker : broken ≡ false → IsWorker (client_at b h p) steps w
  pub hands : broken ≡ false → w.gone ≡ false → HandsStandBy b p h places ms slots
  pub dropped : w.gone ≡ true → (ms ≡ []) × (slots ≡ [])

-- what a contract sees of a client's thread
pub record ClientView : Type 0 where
  pub scribe : Scribe
  pub steps : List Step
  pub number : ℕ
  pub broken : Bool
  pub worker : Worker
  pub places : List ℕ
  pub memories : List Memory
  pub slots : List ℕ

abbrev pub ViewGoes : Begun → ClientView → Type 0
ViewGoes b v = ClientGoes b v.number (history v.scribe) v.steps v.broken v.worker v.places v.memories v.slots

-- the same of a client's thread, by what its handlers remember
abbrev pub seen_of : {X : Type 0} {V : X → Type 0} → Recalls X V → ClientThread X V → ClientView
seen_of memory c = record {
  scribe = c.scribe;
  steps = c.steps.now;
  number = c.number;
  broken = c.broken;
  worker = c.seat.worker;
  places = c.seat.hands.places.items;
  memories = in_chain (boxed memory) c.seat.hands;
  slots = in_rack (boxed memory) c.seat.hands;
}

-- what a client's thread always is
pub record IsClientThreadBy (v : ClientView) : Type 0 where
  pub scribe : IsScribe v.scribe
  pub actor : v.scribe.actor ≡ actors.Client v.number
  pub real : 1 ≤ v.number

-- the same client, which has followed its script further
pub record HasServedBy (v w : ClientView) : Type 0 where
  pub same : IsSameScribe v.scribe w.scribe
  pub steps : w.steps ≡ v.steps
  pub number : w.number ≡ v.number
  pub is : IsClientThreadBy w
  pub goes : (b : Begun) → opened v.scribe ≡ b.state → ViewGoes b v → ViewGoes b w

abbrev pub IsClientThread : {X : Type 0} {V : X → Type 0} → Recalls X V → ClientThread X V → Type 0
IsClientThread memory c = IsClientThreadBy (seen_of memory c)

abbrev pub HasServed : {X : Type 0} {V : X → Type 0} → Recalls X V → ClientThread X V → ClientThread X V → Type 0
HasServed memory old new = HasServedBy (seen_of memory old) (seen_of memory new)

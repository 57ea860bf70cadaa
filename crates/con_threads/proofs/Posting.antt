-- A turn at a post, as its scribe has it.
use Rattle.std.proofs.Common.{◌≡◌, ℕ, Bool, List, subst, Result}
use Rattle.con_units.specs.declared.code.OutOfMemory.{OutOfMemory}
use Rattle.con_events.specs.declared.entry.Entry.{Entry}
use Rattle.con_events.specs.declared.script.Step.{Step}
use Rattle.con_handlers.specs.Memory.{Memory}
use Rattle.con_laws.specs.Rounds.{Begun}
use Rattle.con_actors.specs.DoorTurns.{ClientAt, HasTurnedBy}
use Rattle.con_actors.specs.Words.Worker.{HandsStandBy}
use Rattle.con_actors.specs.declared.worker.Worker.{Worker}
use Rattle.con_threads.specs.Scribe.{opened, history}
use Rattle.con_threads.specs.declared.scribe.Scribe.{Scribe}

pub turned_at : (May : List Entry → Type 0) (r : Result Bool OutOfMemory) (b : Begun) (p : ℕ) (steps : List Step) (y x : Scribe) (g : List Entry)
    (w v : Worker) (places now : List ℕ) (ms after' : List Memory) (slots left : List ℕ)
    → y ≡ x
    → (opened y ≡ b.state → ClientAt b p (history y) steps w → HandsStandBy b p (history y) places ms slots
    → HasTurnedBy May r b p steps (history y) g v now after' left)
    → opened x ≡ b.state → ClientAt b p (history x) steps w → HandsStandBy b p (history x) places ms slots
    → HasTurnedBy May r b p steps (history x) g v now after' left
turned_at May r b p steps y x g w v places now ms after' slots left e t =
    let P : Scribe → Type 0 = λ z. opened z ≡ b.state → ClientAt b p (history z) steps w → HandsStandBy b p (history z) places ms slots
    → HasTurnedBy May r b p steps (history z) g v now after' left in
    subst P e t

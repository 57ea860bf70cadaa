-- Clients at the beginning of a session.
use Rattle.std.specs.Prelude.{◌≡◌, ℕ, ◌+◌, false, List, [], ◌∷◌, get_or}
use Rattle.con_handlers.specs.Memory.{Memory}
use Rattle.con_machine.specs.Follows.{kinds_of}
use Rattle.con_laws.specs.Rounds.{Begun}
use Rattle.con_actors.specs.Words.Worker.{HandsStandBy}
use Rattle.con_actors.specs.declared.worker.Worker.{Worker}

-- a worker that has entered nothing
abbrev pub fresh : Worker
fresh = record { at = 0; reading = false; leaving = false; gone = false }

-- the clients from k + 1 on have entered nothing, each with the rack of its number, if there is one
abbrev pub AreFreshBy : {A : Type 0} → (A → Worker) → (A → List ℕ) → (A → List Memory) → (A → List ℕ) → List (List ℕ) → ℕ → List A → Type 0
AreFreshBy worker places mems slots racks k [] = Unit {0}
AreFreshBy worker places mems slots racks k (x ∷ xs) = (worker x ≡ fresh) × ((b : Begun) (p : ℕ) → kinds_of b.racks p ≡ get_or racks k []
    → HandsStandBy b p [] (places x) (mems x) (slots x)) × AreFreshBy worker places mems slots racks (k + 1) xs

-- The places that the code keeps: 64 for each process, from process 0 on.
use Rattle.std.specs.Prelude.{ℕ, ◌+◌, ◌-◌, ◌*◌, ◌/◌, ◌%◌, List, [], ◌∷◌, Option, Some, None}
use Rattle.con_handles.specs.declared.handle.Held.{Held}
use Rattle.con_handles.specs.declared.handle.Handle.{Handle}

abbrev pub handle_of : ℕ → ℕ → Held → Handle
handle_of process number h = record { process = process; number = number; object = h.object; rights = h.rights }

-- the handles of the places from the k-th on
unfoldable pub listed : ℕ → List (Option Held) → List Handle
listed k [] = []
listed k (None ∷ ps) = listed (k + 1) ps
listed k (Some h ∷ ps) = handle_of (k / 64) (k % 64 + 1) h ∷ listed (k + 1) ps

-- the place of a number of 1 to 64
abbrev pub place_of : ℕ → ℕ → ℕ
place_of process number = process * 64 + (number - 1)

abbrev pub held_in : Option (Option Held) → Option Held
held_in None = None
held_in (Some held) = held

-- What is read of a source to its end.
use Rattle.std.specs.Prelude.{ℕ, ◌≡◌, ◌<◌, List, [], length, Option, IfSome}
use Rattle.con_outside.specs.Outside.{then_left}
use Rattle.con_outside.specs.declared.files.Found.{Found}
use Rattle.con_outside.specs.declared.files.Found.TheVariants as found

-- what an answer says of what the source had left, of the bytes that were taken, and of what it has left now
abbrev pub IsRead : Found → Option (List ℕ) → List ℕ → Option (List ℕ) → Type 0
IsRead found.Whole left bytes now = (left ≡ then_left bytes now) × IfSome now (λ rest. rest ≡ [])
IsRead found.Missing left bytes now = ⊥
IsRead found.TooLong left bytes now = (left ≡ then_left bytes now) × (16777216 < length bytes)

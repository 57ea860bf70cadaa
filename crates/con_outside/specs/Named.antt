-- Files by name.
use Rattle.std.specs.Prelude.{ℕ, ◌<◌, List, length, Option, Some, None}

abbrev pub IsTooLong : Option (List ℕ) → Type 0
IsTooLong None = ⊥
IsTooLong (Some bytes) = 16777216 < length bytes

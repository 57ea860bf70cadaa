-- How the reading of a link ends.
use Rattle.std.specs.Prelude.{ℕ, ◌<◌, ◌≤◌, List, length}

-- more was taken than a link may have, by one piece at most
abbrev pub IsTooLong : List ℕ → Type 0
IsTooLong text = (16777216 < length text) × (length text ≤ 16781312)

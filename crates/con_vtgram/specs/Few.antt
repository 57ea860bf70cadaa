-- How many items a text can have, and how long a title can be.
use Rattle.std.specs.Prelude.{ℕ, ◌≤◌, List, [], ◌∷◌, length}
use Rattle.con_units.specs.Split.{split_after}
use Rattle.con_vtgram.specs.Spoken.{Spoken, spoken}

-- no title has more than 255 units
abbrev pub HaveShortTitles : List Spoken → Type 0
HaveShortTitles [] = Unit {0}
HaveShortTitles (s ∷ rest) = (length s.title ≤ 255) × HaveShortTitles rest

-- after any unfinished text, a unit completes at most one item
pub record AreFew : Type 0 where
  pub items : (tail units : List ℕ) → length (split_after spoken tail units).items ≤ length units
  pub titles : (tail units : List ℕ) → HaveShortTitles (split_after spoken tail units).items

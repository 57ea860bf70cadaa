-- A part of a row, as a window shows it.
use Rattle.std.specs.Prelude.{ℕ, ◌≡◌, ◌+◌, ◌≤◌, List, Option, None, Some}
use Rattle.con_units.specs.Glyph.{Glyph}
use Rattle.con_units.specs.View.{row_part}
use Rattle.con_grid.specs.Picture.{Picture}
use Rattle.con_grid.specs.Words.Picture.{IsUntouched}

abbrev pub IsPartOf : Option (List Glyph) → ℕ → List Glyph → ℕ → ℕ → ℕ → Type 0
IsPartOf None width cells left n y = ⊥
IsPartOf (Some before) width cells left n y = row_part width cells left n y ≡ row_part width before left n y

-- n cells of row y, from the column `left` on, are what they were when the number was last raised
abbrev pub IsPartUntouched : Picture → ℕ → ℕ → ℕ → Type 0
IsPartUntouched p left n y = IsPartOf p.moment p.width p.cells left n y

-- where a row is what it was, each part of it is
abbrev pub PartsFollowRows : Type 0
PartsFollowRows = (p : Picture) (left n y : ℕ) → IsUntouched p y → left + n ≤ p.width → IsPartUntouched p left n y

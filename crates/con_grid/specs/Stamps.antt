-- The stamps of rows.
use Rattle.std.specs.Prelude.{ℕ, ◌≡◌, ◌+◌, ◌*◌, ◌<◌, ◌≤◌, ◌⊎◌, List, length, slice_index_or}
use Rattle.con_grid.specs.Picture.{Picture}
use Rattle.con_grid.specs.Words.Picture.{IsPicture, IsUntouched}

-- The number of a grid, and for each row the number at which it may have changed last.
pub record RowStamps : Type 0 where
  pub now : ℕ
  pub rows : List ℕ

-- a row's stamp; behind the last row the number
abbrev pub stamp_of : RowStamps → ℕ → ℕ
stamp_of s y = slice_index_or s.rows y s.now

-- no stamp is above the number
abbrev pub AreStamps : RowStamps → Type 0
AreStamps s = (y : ℕ) → stamp_of s y ≤ s.now

-- row y has none of the cells from one place up to another
abbrev pub IsApart : ℕ → ℕ → ℕ → ℕ → Type 0
IsApart width from upto y = from < upto → ((y + 1) * width ≤ from) ⊎ (upto ≤ y * width)

-- each row of the cells from one place up to another gets the number, and each other one keeps its stamp or gets it
pub record AreStampedBy (old new : RowStamps) (width from upto : ℕ) : Type 0 where
  pub same : new.now ≡ old.now
  pub count : length new.rows ≡ length old.rows
  pub each : (y : ℕ) → y < length old.rows → (stamp_of new y ≡ old.now) ⊎ ((stamp_of new y ≡ stamp_of old y) × IsApart width from upto y)

-- the stamps are those of a picture: a row that is not stamped with its number is what it was when that was raised
pub record AreStampsOf (p : Picture) (s : RowStamps) : Type 0 where
  pub picture : IsPicture p
  pub number : s.now ≡ p.now
  pub count : length s.rows ≡ p.height
  pub untouched : (y : ℕ) → y < p.height → stamp_of s y < p.now → IsUntouched p y

-- Where a terminal's cursor stands.
use Rattle.std.specs.Prelude.{◌≡◌, ◌+◌, ◌<◌, ℕ, true, false}
use Rattle.con_term.specs.Page.{Page}
use Rattle.con_strokes.specs.Width.{is_trusted}
use Rattle.con_strokes.specs.declared.spot.Spot.{Spot}

-- where the place is known, the cursor stands there, with no wrap pending
pub record IsAt (spot : Spot) (s : Page) : Type 0 where
  pub at : spot.known ≡ true → (s.x ≡ spot.x) × (s.y ≡ spot.y) × (s.pending ≡ false)

-- the place behind a unit in a column, where that is not the last one and the unit's width is not doubted
pub record IsBehind (spot : Spot) (unit x w y : ℕ) : Type 0 where
  pub behind : spot.known ≡ true → (spot.x ≡ x + 1) × (spot.y ≡ y) × (x + 1 < w)
  pub trusted : spot.known ≡ true → is_trusted unit ≡ true

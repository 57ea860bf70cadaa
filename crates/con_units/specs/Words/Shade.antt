-- The words of the code and of laws about Shade, which a reader need not believe.
use Rattle.std.specs.Prelude.{ℕ, ◌+◌, ◌*◌, ◌%◌, ◌<◌, ◌≤◌, ◌≡◌, ◌⊎◌, nat_lt, if◌then◌else◌}
use Rattle.con_units.specs.Shade.{near_in_cube, near_grey, near}
use Rattle.con_units.specs.declared.shade.Shade.{Shade}
use Rattle.con_units.specs.declared.shade.Shade.TheVariants.{Plain, Index}

-- the nearest colours, by the parts of an index
pub record IsNearSo : Type 0 where
  pub cube : (r g b : ℕ) → r ≤ 5 → g ≤ 5 → b ≤ 5 → near (16 + 36 * r + 6 * g + b) ≡ near_in_cube r g b
  pub grey : (quarter k : ℕ) → quarter ≤ 3 → k < 6 → near (232 + 6 * quarter + k) ≡ near_grey quarter

-- the shade of a colour of the table
abbrev pub shade_of : ℕ → Shade
shade_of n = if nat_lt n 16 then Plain else Index n

-- a shade beside four bits of colour whose intensity may have been set
abbrev pub IsNearestOrBright : Shade → ℕ → Type 0
IsNearestOrBright Plain colour = Unit {0}
IsNearestOrBright (Index n) colour = (16 ≤ n) × (n < 256) × ((colour ≡ near n) ⊎ (colour ≡ near n % 8 + 8))

-- The colours of a table of 256, and the nearest ones of sixteen.
use Rattle.std.specs.Prelude.{ℕ, ◌+◌, ◌-◌, ◌/◌, ◌%◌, ◌<◌, ◌≤◌, ◌≡◌, nat_le, ◌==◌, ◌||◌, if◌then◌else◌}
use Rattle.con_units.specs.declared.shade.Shade.{Shade}
use Rattle.con_units.specs.declared.shade.Shade.TheVariants.{Plain, Index}

-- the nearest colour to red, green and blue of 0 to 5, in the bits of an attribute word
abbrev pub near_in_cube : ℕ → ℕ → ℕ → ℕ
near_in_cube r g b = (if nat_le 3 r then 4 else 0) + (if nat_le 3 g then 2 else 0) + (if nat_le 3 b then 1 else 0)
    + (if (r == 5) || (g == 5) || (b == 5) then 8 else 0)

-- the nearest colour to the greys of one of four sixths, from dark to light
abbrev pub near_grey : ℕ → ℕ
near_grey quarter = if quarter == 0 then 0 else if quarter == 1 then 8 else if quarter == 2 then 7 else 15

-- the nearest of the sixteen colours to that of an index of 16 to 255: from 16 on a cube of six reds, greens and blues,
-- from 232 on 24 greys
unfoldable pub near : ℕ → ℕ
near n = if nat_le n 231 then near_in_cube ((n - 16) / 36) ((n - 16) / 6 % 6) ((n - 16) % 6) else near_grey ((n - 232) / 6)

-- a shade beside four bits of colour: plain, or an index to which this colour is the nearest
abbrev pub IsNearest : Shade → ℕ → Type 0
IsNearest Plain colour = Unit {0}
IsNearest (Index n) colour = (16 ≤ n) × (n < 256) × (colour ≡ near n)

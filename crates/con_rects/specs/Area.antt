-- The part of a rectangle that a buffer has.
use Rattle.std.specs.Prelude.{ℕ, ℤ, pos, negsuc, ◌+◌, ◌*◌, ◌-ℤ◌, Bool, int_le, ◌&&◌, if◌then◌else◌}
use Rattle.std.specs.Int.{int_min}
use Rattle.con_units.specs.Natural.{natural}
use Rattle.con_units.specs.declared.place.Rect.{Rect}

-- whether a rectangle has a column and a row
abbrev pub covers : Rect → ℤ → ℤ → Bool
covers r x y = int_le r.left x && int_le x r.right && int_le r.top y && int_le y r.bottom

-- how many columns, or rows, there are from one up to another one
abbrev pub span : ℤ → ℤ → ℕ
span low high = if int_le low high then natural (high -ℤ low) + 1 else 0

-- how many cells a rectangle has as it is given
abbrev pub cell_count : Rect → ℕ
cell_count r = span r.left r.right * span r.top r.bottom

-- the part of a rectangle that a buffer of w by h has, and (0, 0, -1, -1) where it has none of it
abbrev pub used_rect : Rect → ℕ → ℕ → Rect
used_rect r w h = let left = pos (natural r.left) in let right = int_min r.right (pos w -ℤ pos 1) in
    let top = pos (natural r.top) in let bottom = int_min r.bottom (pos h -ℤ pos 1) in
    if int_le left right && int_le top bottom then record { left = left; top = top; right = right; bottom = bottom }
    else record { left = pos 0; top = pos 0; right = negsuc 0; bottom = negsuc 0 }

-- how many cells that part has
abbrev pub used_size : Rect → ℕ → ℕ → ℕ
used_size r w h = cell_count (used_rect r w h)

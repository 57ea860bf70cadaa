-- The code's own words: pieces of a part.
use Rattle.std.specs.Prelude.{ℕ, pos, ◌+◌, ◌-◌, Bool, List, ◌++◌, take, flat_map, replicate, if◌then◌else◌}
use Rattle.std.specs.List.{range_with_len}
use Rattle.con_units.specs.Glyph.{Glyph, blank_cell}
use Rattle.con_units.specs.Natural.{natural}
use Rattle.con_units.specs.declared.place.Coord.{Coord}
use Rattle.con_units.specs.declared.view.View.{View}
use Rattle.con_mirror.specs.Part.{corner, part_row}

-- the first n of these cells, and then spaces
abbrev pub padded : ℕ → List Glyph → List Glyph
padded n cells = take n (cells ++ replicate n blank_cell)

-- the first n rows of so many columns, from the row `top` on
abbrev pub part_rows : View → ℕ → ℕ → ℕ → ℕ → List Glyph
part_rows v left top w n = flat_map (λ y. part_row v left w (top + y)) (range_with_len 0 n)

-- the cursor, from a corner on; (0, 0) where it does not show
abbrev pub cursor_from : Bool → ℕ → ℕ → ℕ → ℕ → Coord
cursor_from shows x y left top = if shows then record { x = pos (x - left); y = pos (y - top) } else record { x = pos 0; y = pos 0 }

-- the column, and the row, at which a part of so many begins
abbrev pub left_of : View → ℕ → ℕ
left_of v w = corner v.visible (natural v.cursor.x) w

abbrev pub top_of : View → ℕ → ℕ
top_of v h = corner v.visible (natural v.cursor.y) h

-- Rectangles, runs and scrolls as the code has them: areas in natural numbers, and rules by parts.
use Rattle.std.specs.Prelude.{ℕ, zero, suc, ℤ, pos, negsuc, ◌+◌, ◌-◌, ◌*◌, ◌-ℤ◌, min, Bool, true, not, nat_lt, nat_le, int_le, ◌&&◌, if◌then◌else◌}
use Rattle.std.specs.Prelude.{List, [], ◌++◌, map, slice_index_or, Option}
use Rattle.std.specs.Option.{option_map_or}
use Rattle.con_units.specs.Glyph.{Glyph, plain_cell, blank_cell}
use Rattle.con_units.specs.Stored.{stored_unit}
use Rattle.con_units.specs.Attr.{plain}
use Rattle.con_units.specs.Natural.{natural}
use Rattle.con_units.specs.View.{row_part}
use Rattle.con_units.specs.declared.place.Coord.{Coord}
use Rattle.con_units.specs.declared.place.Rect.{Rect}
use Rattle.con_grid.specs.Picture.{Picture, place}
use Rattle.con_rects.specs.Area.{covers, span, used_rect}
use Rattle.con_rects.specs.Rules.{cell_at}
use Rattle.con_rects.specs.declared.area.Area.{Area}

-- ---- areas

-- the least natural number past a number
abbrev pub past : ℤ → ℕ
past (pos n) = n + 1
past (negsuc n) = 0

-- the columns and rows of a rectangle that a buffer of w by h has, up to the area's right and bottom and without these
abbrev pub area_in : Rect → ℕ → ℕ → Area
area_in r w h = record { left = natural r.left; top = natural r.top; right = min (past r.right) w; bottom = min (past r.bottom) h }

abbrev pub columns_of : Area → ℕ
columns_of a = a.right - a.left

abbrev pub rows_of : Area → ℕ
rows_of a = a.bottom - a.top

abbrev pub area_size : Area → ℕ
area_size a = columns_of a * rows_of a

-- whether an area has a column and a row
abbrev pub is_within : Area → ℕ → ℕ → Bool
is_within a x y = nat_le a.left x && nat_lt x a.right && nat_le a.top y && nat_lt y a.bottom

-- whether an area has a cell
abbrev pub has_cells : Area → Bool
has_cells a = nat_lt a.left a.right && nat_lt a.top a.bottom

-- the rectangle of an area, and (0, 0, -1, -1) where it has no cell
abbrev pub rect_of : Area → Rect
rect_of a =
    if has_cells a
    then record { left = pos a.left; top = pos a.top; right = pos (a.right - 1); bottom = pos (a.bottom - 1) }
    else record { left = pos 0; top = pos 0; right = negsuc 0; bottom = negsuc 0 }

-- the rectangle of a whole buffer
abbrev pub whole : ℕ → ℕ → Rect
whole w h = record { left = pos 0; top = pos 0; right = pos w -ℤ pos 1; bottom = pos h -ℤ pos 1 }

-- how many columns and how many rows a rectangle has as it is given
abbrev pub wide : Rect → ℕ
wide r = span r.left r.right

abbrev pub tall : Rect → ℕ
tall r = span r.top r.bottom

-- ---- rectangles

-- what is read where there is no cell; no rule reads there
abbrev pub blank : Glyph
blank = blank_cell

-- the new cell of a column and a row when a rectangle's cells are written, which are given row by row: plain shades
abbrev pub rect_rule : Picture → Rect → List Glyph → ℕ → ℕ → Glyph
rect_rule p r cells x y =
    if covers r (pos x) (pos y)
    then plain_cell (slice_index_or cells (natural (pos y -ℤ r.top) * wide r + natural (pos x -ℤ r.left)) blank)
    else cell_at p x y

-- the grid as it is read: with plain shades
abbrev pub as_read : Picture → Picture
as_read p = record p { cells = map plain_cell p.cells }

-- the cells of n rows from the row y on, from one column up to another, row by row
abbrev pub rows_part : Picture → ℕ → ℕ → ℕ → ℕ → List Glyph
rows_part p left right y zero = []
rows_part p left right y (suc n) = rows_part p left right y n ++ row_part p.width p.cells left (right - left) (y + n)

-- the cells of an area, row by row
abbrev pub area_cells : Picture → Area → List Glyph
area_cells p a = rows_part p a.left a.right a.top (rows_of a)

-- ---- runs

-- whether a grid has a place
abbrev pub has_place : Picture → Coord → Bool
has_place p at = int_le (pos 0) at.x && int_le (pos 0) at.y && nat_lt (natural at.x) p.width && nat_lt (natural at.y) p.height

-- how many cells there are from a place up to the end of the grid, row by row: none from a place outside
abbrev pub run_length : Picture → Coord → ℕ
run_length p at = if has_place p at then p.width * p.height - place p at else 0

-- whether a place in the list of cells is one of n from another on
abbrev pub in_run : ℕ → ℕ → ℕ → Bool
in_run from n k = nat_le from k && nat_lt k (from + n)

-- a cell with another unit and the same attribute, and a cell with another word and plain shades
abbrev pub with_unit : Glyph → ℕ → Glyph
with_unit g unit = record g { unit = stored_unit unit }

abbrev pub with_word : Glyph → ℕ → Glyph
with_word g word = record g { attr = plain word }

-- the new cell of a column and a row when n cells from a place on take one value each, in their order
abbrev pub run_rule : Picture → ℕ → ℕ → (Glyph → ℕ → Glyph) → List ℕ → ℕ → ℕ → Glyph
run_rule p from n with_value values x y =
    let k = y * p.width + x in
    if in_run from n k then with_value (cell_at p x y) (slice_index_or values (k - from) 0) else cell_at p x y

-- ---- scrolls

-- whether a place may change: it is in the clip, if there is one
abbrev pub may_change : Option Rect → ℤ → ℤ → Bool
may_change clip x y = option_map_or (λ r. covers r x y) clip true

-- whether a place is in the source and in the buffer
abbrev pub in_source : Picture → Rect → ℤ → ℤ → Bool
in_source p source x y = covers source x y && covers (whole p.width p.height) x y

-- the new cell of a place (x, y)
abbrev pub scroll_rule : Picture → Rect → Option Rect → Coord → Glyph → ℕ → ℕ → Glyph
scroll_rule p source clip dest fill x y =
    let used = used_rect source p.width p.height in
    let from_x = pos x -ℤ (dest.x -ℤ source.left) in let from_y = pos y -ℤ (dest.y -ℤ source.top) in
    if not (may_change clip (pos x) (pos y)) then cell_at p x y
    else if covers used from_x from_y then cell_at p (natural from_x) (natural from_y)
    else if covers used (pos x) (pos y) then fill else cell_at p x y

-- What a call makes of a grid, as a rule for each cell: the new cell at a column and a row, in terms of the old grid.
use Rattle.std.specs.Prelude.{ℕ, pos, ◌+◌, ◌*◌, ◌/◌, ◌%◌, ◌-ℤ◌, List, map, flat_map, slice_index_or, if◌then◌else◌}
use Rattle.std.specs.List.{range_with_len}
use Rattle.con_units.specs.Glyph.{Glyph, plain_cell, blank_cell}
use Rattle.con_units.specs.Natural.{natural}
use Rattle.con_units.specs.View.{row_part}
use Rattle.con_units.specs.declared.place.Rect.{Rect}
use Rattle.con_grid.specs.Picture.{Picture}
use Rattle.con_rects.specs.Area.{covers, span, used_rect}

-- the cell of a column and a row; no rule below reads where there is none
abbrev pub cell_at : Picture → ℕ → ℕ → Glyph
cell_at p x y = slice_index_or p.cells (y * p.width + x) blank_cell

-- the grid whose cell of each column and row is what the rule says
unfoldable pub redrawn : Picture → (ℕ → ℕ → Glyph) → Picture
redrawn p rule = record p { cells = map (λ k. rule (k % p.width) (k / p.width)) (range_with_len 0 (p.width * p.height)) }

-- the grid after cells, which are given row by row, were written over a rectangle, with plain shades
unfoldable pub rect_written : Picture → Rect → List Glyph → Picture
rect_written p r cells = redrawn p (λ x y. if covers r (pos x) (pos y)
    then plain_cell (slice_index_or cells (natural (pos y -ℤ r.top) * span r.left r.right + natural (pos x -ℤ r.left)) blank_cell)
    else cell_at p x y)

-- the cells of a rectangle that a grid has, row by row, as they are read: with plain shades
unfoldable pub rect_cells : Picture → Rect → List Glyph
rect_cells p r = let used = used_rect r p.width p.height in
    flat_map (λ y. row_part p.width (map plain_cell p.cells) (natural used.left) (span used.left used.right) y)
    (range_with_len (natural used.top) (span used.top used.bottom))

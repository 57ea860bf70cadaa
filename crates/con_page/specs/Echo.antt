-- What a changed line does to the page that it is typed on.
use Rattle.std.specs.Prelude.{ℕ, ℤ, pos, negsuc, ◌+◌, ◌-◌, ◌-ℤ◌, ◌*◌, ◌/◌, ◌%◌, false}
use Rattle.std.specs.Prelude.{nat_eq, nat_lt, List, length, map, slice_index, slice_index_or, None, if◌then◌else◌}
use Rattle.std.specs.List.{range_with_len, common_prefix_len}
use Rattle.con_units.specs.Natural.{natural}
use Rattle.con_units.specs.Glyph.{Glyph, cell_of}
use Rattle.con_page.specs.Page.{Page, attr, blank, with_cells, rows_up, down_in, shown}
use Rattle.con_page.specs.Fit.{within}
use Rattle.con_page.specs.declared.origin.Origin.{Origin}

-- ---- places: place k of a line is the k-th cell after its origin, row by row

-- how many rows a row lies above row 0
abbrev pub rows_above : ℤ → ℕ
rows_above (pos n) = 0
rows_above (negsuc n) = n + 1

-- a row is taken into the buffer from below it alone
abbrev pub row_within : ℕ → ℤ → ℤ
row_within height (pos n) = pos (within height n)
row_within height (negsuc n) = negsuc n

-- the origin as it is used
abbrev pub origin_in : Page → Origin → Origin
origin_in p o = record { x = within p.grid.width o.x; y = row_within p.grid.height o.y }

-- the row of a place, and 0 where it lies above row 0
abbrev pub row_of : Page → Origin → ℕ → ℕ
row_of p o k = natural o.y + (o.x + k) / p.grid.width - rows_above o.y

-- ---- the scroll

-- how many rows below the last one a place lies: the least number of rows by which a scroll brings it in
abbrev pub rows_past : Page → Origin → ℕ → ℕ
rows_past p o k = row_of p o k - (p.grid.height - 1)

-- the origin when the buffer has scrolled so that a line of this length, and the place behind it, are in it
abbrev pub origin_after : Page → Origin → ℕ → Origin
origin_after p o end = let at = origin_in p o in record at { y = at.y -ℤ pos (rows_past p at end) }

-- ---- the cells

-- a rule says what becomes of the cell of place k; a cell before the origin stays
abbrev pub ruled : Page → Origin → (ℕ → Glyph → Glyph) → ℕ → Glyph → Glyph
ruled p o rule i was =
    if nat_lt (i + rows_above o.y * p.grid.width) (natural o.y * p.grid.width + o.x) then was
    else rule (i + rows_above o.y * p.grid.width - (natural o.y * p.grid.width + o.x)) was

-- each cell of the buffer by a rule
unfoldable pub drawn_by : Page → Origin → (ℕ → Glyph → Glyph) → Page
drawn_by p o rule = with_cells p (map (λ i. ruled p o rule i (slice_index_or p.grid.cells i (blank p))) (range_with_len 0 (length p.grid.cells)))

-- The places from the first difference to the new length show the new units, those from there to the old length are
-- blank, and the others stay.
abbrev pub texts_rule : Page → List ℕ → List ℕ → ℕ → Glyph → Glyph
texts_rule p old new k was =
    if nat_lt k (common_prefix_len nat_eq old new) then was
    else if nat_lt k (length new) then cell_of (slice_index new k) (attr p)
    else if nat_lt k (length old) then blank p
    else was

-- ---- the cursor

-- the cursor at a place, in the buffer
abbrev pub cursor_at : Page → Origin → ℕ → Page
cursor_at p o k = record p { x = (o.x + k) % p.grid.width; y = within p.grid.height (row_of p o k); late = false }

-- ---- the whole

-- a line of this length changes by a rule, and the cursor goes to the caret's place
unfoldable pub changed : Page → Origin → ℕ → (ℕ → Glyph → Glyph) → ℕ → Page
changed p o end rule caret = let at = origin_after p o end in
    shown (cursor_at (drawn_by (rows_up p 0 p.grid.height (rows_past p (origin_in p o) end)) at rule) at caret)

-- the line ends: the cursor goes to the place of its length, then to column 0 and down without margins
unfoldable pub ended : Page → Origin → ℕ → Page
ended p o end = shown (down_in (record (cursor_at p (origin_in p o) end) { x = 0 }) None)

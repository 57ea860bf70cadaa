-- Units printed one after another in a row.
use Rattle.std.specs.Prelude.{ℕ, ◌+◌, ◌-◌, ◌==◌, min, List, ◌++◌, length, map, take, drop, fold}
use Rattle.con_units.specs.Glyph.{Glyph, cell_of}
use Rattle.con_vtgram.specs.Pen.{attr_of}
use Rattle.con_term.specs.Page.{Page, place, printed}

abbrev pub printed_next : Page → ℕ → Page
printed_next s u = printed u s

-- the page after the units, one after another
unfoldable pub all_printed : Page → List ℕ → Page
all_printed s us = fold printed_next s us

-- the cells from a place on become these
unfoldable pub pasted : List Glyph → ℕ → List Glyph → List Glyph
pasted cells at new = take at cells ++ new ++ drop (at + length new) cells

abbrev pub cells_for : Page → List ℕ → List Glyph
cells_for s us = map (λ u. cell_of u (attr_of s.pen)) us

-- what units leave that end in the cursor's row, where no wrap is pending
abbrev pub ran : Page → List ℕ → Page
ran s us = record s { cells = pasted s.cells (place s) (cells_for s us); x = min (s.x + length us) (s.w - 1); pending = (s.x + length us == s.w) }

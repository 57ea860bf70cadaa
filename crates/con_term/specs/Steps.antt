-- The code's own words: parts of what an item does, and units before they are characters.
use Rattle.std.specs.Prelude.{ℕ, ◌+◌, ◌-◌, ◌*◌, true, min, max, nat_lt, List, fold, slice_set, if◌then◌else◌}
use Rattle.con_units.specs.Glyph.{cell_of}
use Rattle.con_units.specs.Split.{split_after}
use Rattle.con_vtgram.specs.Pen.{attr_of}
use Rattle.con_vtgram.specs.Text.{grammar}
use Rattle.con_term.specs.Page.{Page, place, erased, raised}
use Rattle.con_term.specs.Effect.{effect, row_end, unpended, moved_to, part_erased}
use Rattle.con_term.specs.Terminal.{Terminal}

-- all rows go up by one
abbrev pub scrolled : Page → Page
scrolled s = raised s s.w

-- the unit in the cursor's cell
abbrev pub put : ℕ → Page → Page
put u s = record s { cells = slice_set s.cells (place s) (cell_of u (attr_of s.pen)) }

-- and the cursor one on
abbrev pub advanced : Page → Page
advanced s = if nat_lt (s.x + 1) s.w then record s { x = s.x + 1 } else record s { pending = true }

-- all rows go up by n, with blank rows below
abbrev pub lifted : Page → ℕ → Page
lifted s n = raised s (min n s.h * s.w)

abbrev pub display_erased : Page → ℕ → Page
display_erased s n = part_erased s 0 (s.h * s.w) n

abbrev pub line_erased : Page → ℕ → Page
line_erased s n = part_erased s (s.y * s.w) (row_end s) n

abbrev pub some_erased : Page → ℕ → Page
some_erased s n = unpended (erased s (place s) (min (place s + max n 1) (row_end s)))

abbrev pub moved_up : Page → ℕ → Page
moved_up s n = moved_to s s.x (s.y - max n 1)

abbrev pub moved_down : Page → ℕ → Page
moved_down s n = moved_to s s.x (min (s.y + max n 1) (s.h - 1))

abbrev pub moved_right : Page → ℕ → Page
moved_right s n = moved_to s (min (s.x + max n 1) (s.w - 1)) s.y

abbrev pub moved_left : Page → ℕ → Page
moved_left s n = moved_to s (s.x - max n 1) s.y

-- the terminal after units
unfoldable pub typed : Terminal → List ℕ → Terminal
typed t us = let sequences = split_after grammar t.units us in
    record t { page = fold effect t.page sequences.items; units = sequences.tail }

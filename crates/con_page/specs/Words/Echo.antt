-- The words of the code and of laws about Echo, which a reader need not believe: the same in its parts, as the code has it.
use Rattle.std.specs.Prelude.{ℕ, pos, ◌+◌, ◌-◌, ◌-ℤ◌, nat_lt, List, length, slice_index, if◌then◌else◌}
use Rattle.con_units.specs.Glyph.{Glyph, cell_of}
use Rattle.con_page.specs.Page.{Page, attr, blank, rows_up}
use Rattle.con_page.specs.Echo.{rows_past}
use Rattle.con_page.specs.declared.origin.Origin.{Origin}

-- the places from `offset` on show units, those behind them are blanks, and the others stay
abbrev pub part_rule : Page → ℕ → List ℕ → ℕ → ℕ → Glyph → Glyph
part_rule p offset units blanks k was =
    if nat_lt k offset then was
    else if nat_lt k (offset + length units) then cell_of (slice_index units (k - offset)) (attr p)
    else if nat_lt k (offset + length units + blanks) then blank p
    else was

-- the whole buffer, so that a line of this length and the place behind it are in it
abbrev pub scrolled : Page → Origin → ℕ → Page
scrolled p o end = rows_up p 0 p.grid.height (rows_past p o end)

-- the origin's row falls by as many
abbrev pub fallen : Page → Origin → ℕ → Origin
fallen p o end = record o { y = o.y -ℤ pos (rows_past p o end) }

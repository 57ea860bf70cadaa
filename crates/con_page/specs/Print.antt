-- What a printed unit does.
use Rattle.std.specs.Prelude.{ℕ, ◌+◌, true, false, ◌==◌, nat_lt, slice_set, if◌then◌else◌}
use Rattle.con_units.specs.Glyph.{cell_of}
use Rattle.con_page.specs.Page.{Page, place, attr, with_cells, down}

-- line drawing
unfoldable pub line_of : ℕ → ℕ
line_of u =
    if u == 0x6A then 0x2518 else if u == 0x6B then 0x2510 else if u == 0x6C then 0x250C else if u == 0x6D then 0x2514
    else if u == 0x6E then 0x253C else if u == 0x71 then 0x2500 else if u == 0x74 then 0x251C else if u == 0x75 then 0x2524
    else if u == 0x76 then 0x2534 else if u == 0x77 then 0x252C else if u == 0x78 then 0x2502 else u

unfoldable pub wrapped : Page → Page
wrapped p = if p.late then down (record p { x = 0; late = false }) else p

unfoldable pub put : ℕ → Page → Page
put u p = with_cells p (slice_set p.grid.cells (place p) (cell_of (if p.drawing then line_of u else u) (attr p)))

unfoldable pub advanced : Page → Page
advanced p =
    if nat_lt (p.x + 1) p.grid.width then record p { x = p.x + 1 }
    else if p.mode.wrap then (if p.mode.keeps_column then record p { late = true } else down (record p { x = 0 }))
    else p

unfoldable pub printed : ℕ → Page → Page
printed u p = advanced (put u (wrapped p))

-- Effects by their names, as the methods of a page have them.
use Rattle.std.specs.Prelude.{ℕ, ◌+◌, ◌-◌, ◌*◌, Bool, true, false, ◌==◌, ◌&&◌, ◌||◌, nat_lt, nat_le, min}
use Rattle.std.specs.Prelude.{replicate, slice_set, Option, None, Some, if◌then◌else◌}
use Rattle.con_vtgram.specs.Pen.{starting_pen}
use Rattle.con_grid.specs.Picture.{part_lifted, part_lowered}
use Rattle.con_page.specs.Page.{Page, place, row_end, blank, with_cells, erased, rows_up, rows_down, region_first, region_end, down}
use Rattle.con_page.specs.Effect.{clamp, at_x, times, tab_right, tab_left, is_in_region}
use Rattle.con_page.specs.declared.margins.Margins.{Margins}

abbrev pub line_feed : Page → Page
line_feed p = record (down (if p.mode.keeps_column then p else record p { x = 0 })) { late = false }

abbrev pub tabbed_right : Page → ℕ → Page
tabbed_right p n = at_x p (times n (tab_right p.tabs p.grid.width) p.x)

abbrev pub tabbed_left : Page → ℕ → Page
tabbed_left p n = at_x p (times n (tab_left p.tabs) p.x)

abbrev pub window_start : Page → ℕ
window_start p = p.top * p.grid.width

abbrev pub window_end : Page → ℕ
window_end p = (p.top + p.h) * p.grid.width

abbrev pub some_erased : Page → ℕ → Page
some_erased p n = erased p (place p) (min (place p + n) (row_end p))

abbrev pub inserted : Page → ℕ → Page
inserted p n = with_cells p (part_lowered p.grid.cells (place p) (row_end p) n (blank p))

abbrev pub deleted : Page → ℕ → Page
deleted p n = with_cells p (part_lifted p.grid.cells (place p) (row_end p) n (blank p))

abbrev pub lines_inserted : Page → ℕ → Page
lines_inserted p n = if is_in_region p then rows_down p p.y (region_end p) n else p

abbrev pub lines_deleted : Page → ℕ → Page
lines_deleted p n = if is_in_region p then rows_up p p.y (region_end p) n else p

abbrev pub is_region : ℕ → ℕ → ℕ → Bool
is_region h top bottom = (nat_lt top bottom && nat_le bottom h) || ((h == 1) && (top == 1) && (bottom == 1))

abbrev pub margins_of : ℕ → ℕ → ℕ → Option Margins
margins_of h top bottom = if (top == 1) && (bottom == h) then None else Some (record { top = top; bottom = bottom })

abbrev pub tabs_cleared : Page → ℕ → Page
tabs_cleared p n =
    if n == 0 then record p { tabs = slice_set p.tabs p.x false }
    else if n == 3 then record p { tabs = replicate p.grid.width false }
    else p

abbrev pub reset : Page → Page
reset p = record p { visible = true; margins = None; drawing = false; pen = starting_pen; saved_x = 0; saved_y = 0 }

abbrev pub reversed : Page → Page
reversed p =
    if p.y == region_first p then record (rows_down p (region_first p) (region_end p) 1) { late = false }
    else record p { y = if nat_lt p.top p.y then p.y - 1 else p.y; late = false }

abbrev pub charset_effect : Page → ℕ → Page
charset_effect p u = if u == 0x30 then record p { drawing = true } else if u == 0x42 then record p { drawing = false } else p

-- where the cursor's row begins
abbrev pub row_start : Page → ℕ
row_start p = p.y * p.grid.width

-- the row and the column that a cursor report tells: in the window, from 1
abbrev pub report_row : Page → ℕ
report_row p = clamp p.top p.h p.y - p.top + 1

abbrev pub report_column : Page → ℕ
report_column p = clamp p.left p.w p.x - p.left + 1

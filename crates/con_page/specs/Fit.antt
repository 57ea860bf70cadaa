-- A screen of another size.
use Rattle.std.specs.Prelude.{ℕ, ◌-◌, ◌==◌, false, min, None, if◌then◌else◌}
use Rattle.con_units.specs.declared.place.Size.{Size}
use Rattle.con_grid.specs.Picture.{resized}
use Rattle.con_page.specs.Page.{Page, blank, shown}
use Rattle.con_page.specs.Setters.{default_tabs}

-- a column or a row, in a side
abbrev pub within : ℕ → ℕ → ℕ
within side n = min n (side - 1)

-- The page in a buffer and a window of these sizes. Where the height falls, as many rows go at the top as the cursor's row lies
-- below the new last row, and the others at the bottom; new cells are spaces in the pen's attribute. The cursor and the saved
-- position go up with the rows that go at the top, and stay in the buffer. The window's corner does likewise, and the window
-- stays in the buffer, and shows the cursor.
unfoldable pub refitted : Page → Size → Size → Page
refitted p buffer window = let lost = min (p.grid.height - buffer.h) (p.y - (buffer.h - 1)) in shown (record p {
  grid = resized p.grid buffer.w buffer.h lost (blank p);
  x = within buffer.w p.x;
  y = within buffer.h (p.y - lost);
  saved_x = within buffer.w p.saved_x;
  saved_y = within buffer.h (p.saved_y - lost);
  left = min p.left (buffer.w - window.w);
  top = min (p.top - lost) (buffer.h - window.h);
  w = window.w;
  h = window.h;
  margins = None;
  tabs = if buffer.w == p.grid.width then p.tabs else default_tabs buffer.w;
  late = false;
})

-- What a console shows.
use Rattle.std.specs.Prelude.{ℕ, zero, suc, pos, ◌+◌, ◌-◌, Bool, nat_le, nat_lt, ◌&&◌, List, [], ◌++◌, if◌then◌else◌}
use Rattle.con_units.specs.Glyph.{Glyph}
use Rattle.con_units.specs.View.{row_part}
use Rattle.con_units.specs.declared.view.View.{View}
use Rattle.con_page.specs.Page.{Page}

-- a window's first n rows, from the row `top` on, one after the other, in cells of a width
abbrev pub rows_in : ℕ → List Glyph → ℕ → ℕ → ℕ → ℕ → List Glyph
rows_in width cells left top w zero = []
rows_in width cells left top w (suc n) = rows_in width cells left top w n ++ row_part width cells left w (top + n)

-- whether a column or a row is one of so many from another on
abbrev pub is_from : ℕ → ℕ → ℕ → Bool
is_from first n at = nat_le first at && nat_lt at (first + n)

-- the cursor is visible and stands in the window
abbrev pub cursor_shown : Page → Bool
cursor_shown p = p.visible && is_from p.left p.w p.x && is_from p.top p.h p.y

-- the window of a screen, cell by cell, and where its cursor is shown, from the window's corner; (0, 0) where it is not
abbrev pub view_of : Page → View
view_of p = record {
  size = record { w = p.w; h = p.h };
  rows = rows_in p.grid.width p.grid.cells p.left p.top p.w p.h;
  cursor = if cursor_shown p then record { x = pos (p.x - p.left); y = pos (p.y - p.top) } else record { x = pos 0; y = pos 0 };
  visible = cursor_shown p;
}

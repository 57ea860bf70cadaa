-- A screen without its unfinished text.
use Rattle.std.specs.Prelude.{ℕ, ◌+◌, ◌-◌, ◌*◌, Bool, ◌==◌, nat_lt, List, Option, None, Some, if◌then◌else◌}
use Rattle.std.specs.Option.{option_map_or}
use Rattle.con_units.specs.Attr.{Attribute}
use Rattle.con_units.specs.Glyph.{Glyph, blank_in}
use Rattle.con_grid.specs.Picture.{Picture, filled, part_lifted, part_lowered}
use Rattle.con_vtgram.specs.Pen.{attr_of}
use Rattle.con_vtgram.specs.declared.pen.Pen.{Pen}
use Rattle.con_page.specs.declared.mode.Mode.{Mode}
use Rattle.con_page.specs.declared.margins.Margins.{Margins}

pub record Page : Type 0 where
  pub grid : Picture
  -- the cursor
  pub x : ℕ
  pub y : ℕ
  pub visible : Bool
  pub cursor_size : ℕ
  -- the window
  pub left : ℕ
  pub top : ℕ
  pub w : ℕ
  pub h : ℕ
  pub mode : Mode
  pub pen : Pen
  pub saved_x : ℕ
  pub saved_y : ℕ
  pub margins : Option Margins
  -- for each column, whether a tab stops there
  pub tabs : List Bool
  pub drawing : Bool
  -- a print stood in the last column, and the next one wraps first
  pub late : Bool

abbrev pub place : Page → ℕ
place p = p.y * p.grid.width + p.x

-- the place behind the cursor's row
abbrev pub row_end : Page → ℕ
row_end p = p.y * p.grid.width + p.grid.width

-- what cells are written in
abbrev pub attr : Page → Attribute
attr p = attr_of p.pen

abbrev pub blank : Page → Glyph
blank p = blank_in (attr p)

abbrev pub with_cells : Page → List Glyph → Page
with_cells p cells = record p { grid = record p.grid { cells = cells } }

-- the cells from one place up to another become blank
abbrev pub erased : Page → ℕ → ℕ → Page
erased p from upto = with_cells p (filled p.grid.cells from upto (blank p))

-- the rows from one up to another go up, with blank rows below
abbrev pub rows_up : Page → ℕ → ℕ → ℕ → Page
rows_up p first end n = with_cells p (part_lifted p.grid.cells (first * p.grid.width) (end * p.grid.width) (n * p.grid.width) (blank p))

-- the rows from one up to another go down, with blank rows above
abbrev pub rows_down : Page → ℕ → ℕ → ℕ → Page
rows_down p first end n = with_cells p (part_lowered p.grid.cells (first * p.grid.width) (end * p.grid.width) (n * p.grid.width) (blank p))

-- ---- the region

-- the region's first row
abbrev pub region_first : Page → ℕ
region_first p = option_map_or (λ m. p.top + m.top - 1) p.margins p.top

-- the row behind the region's last one
abbrev pub region_end : Page → ℕ
region_end p = option_map_or (λ m. p.top + m.bottom) p.margins (p.top + p.h)

-- to the row below; without margins the buffer's rows go up on its last row; with margins theirs go up on their last row, and on the buffer's last row outside
-- of that nothing happens
abbrev pub down_in : Page → Option Margins → Page
down_in p None = if p.y + 1 == p.grid.height then rows_up p 0 p.grid.height 1 else record p { y = p.y + 1 }
down_in p (Some m) =
    if p.y + 1 == p.top + m.bottom then rows_up p (p.top + m.top - 1) (p.top + m.bottom) 1 else if p.y + 1 == p.grid.height then p else record p { y = p.y + 1 }

unfoldable pub down : Page → Page
down p = down_in p p.margins

-- ---- the window

abbrev pub least_shift : ℕ → ℕ → ℕ → ℕ
least_shift from size at = if nat_lt at from then at else if nat_lt at (from + size) then from else at + 1 - size

-- the window moves by the least distance that shows the cursor
unfoldable pub shown : Page → Page
shown p = record p { left = least_shift p.left p.w p.x; top = least_shift p.top p.h p.y }

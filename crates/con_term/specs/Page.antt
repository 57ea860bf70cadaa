-- The page of a terminal, and what changes it.
use Rattle.std.specs.Prelude.{ℕ, ◌+◌, ◌-◌, ◌*◌, ◌<◌, ◌≡◌, ◌≤◌, Bool, true, false, nat_lt, List, ◌++◌, length, take, drop, replicate, slice_set, if◌then◌else◌}
use Rattle.con_units.specs.Glyph.{Glyph, cell_of, blank_in, blank_cell}
use Rattle.con_vtgram.specs.Pen.{attr_of, IsPen, starting_pen}
use Rattle.con_vtgram.specs.declared.pen.Pen.{Pen}

-- a page: its cells row by row
pub record Page : Type 0 where
  pub w : ℕ
  pub h : ℕ
  pub cells : List Glyph
  pub x : ℕ
  pub y : ℕ
  pub pen : Pen
  pub pending : Bool
  pub visible : Bool

pub record IsPage (s : Page) : Type 0 where
  pub width : s.w ≤ 512
  pub height : s.h ≤ 256
  pub cells : length s.cells ≡ s.h * s.w
  pub column : s.x < s.w
  pub row : s.y < s.h
  pub pen : IsPen s.pen

abbrev pub place : Page → ℕ
place s = s.y * s.w + s.x

abbrev pub blank : Page → Glyph
blank s = blank_in (attr_of s.pen)

-- the cells from one place up to another become this cell
unfoldable pub filled : List Glyph → ℕ → ℕ → Glyph → List Glyph
filled cells from upto cell = take from cells ++ replicate (upto - from) cell ++ drop upto cells

abbrev pub erased : Page → ℕ → ℕ → Page
erased s from upto = record s { cells = filled s.cells from upto (blank s) }

-- so many cells go, and blanks come behind
abbrev pub raised : Page → ℕ → Page
raised s count = record s { cells = drop count s.cells ++ replicate count (blank s) }

-- the cursor goes down; in the last row all rows go up by one
unfoldable pub lowered : Page → Page
lowered s = if nat_lt (s.y + 1) s.h then record s { y = s.y + 1 } else raised s s.w

-- a pending wrap is done
abbrev pub wrapped : Page → Page
wrapped s = if s.pending then record (lowered s) { x = 0; pending = false } else s

-- the unit in the cursor's cell, and the cursor one on; behind the last column a wrap is pending
unfoldable pub printed : ℕ → Page → Page
printed u s = let t = wrapped s in let cells = slice_set t.cells (place t) (cell_of u (attr_of t.pen)) in
    if nat_lt (t.x + 1) t.w then record t { cells = cells; x = t.x + 1 } else record t { cells = cells; pending = true }

-- a page of spaces
abbrev pub blank_page : ℕ → ℕ → Page
blank_page w h = record { w = w; h = h; cells = replicate (h * w) blank_cell; x = 0; y = 0; pen = starting_pen; pending = false; visible = true }

-- The words of the code and of laws about Picture, which a reader need not believe.
use Rattle.std.specs.Prelude.{ℕ, ℤ, pos, negsuc, ◌≡◌, ◌+◌, ◌-◌, ◌*◌, ◌<◌, ◌≤◌, ◌≤ℤ◌, nat_lt, List, ◌++◌, length}
use Rattle.std.specs.Prelude.{take, drop, map, slice_index_or, if◌then◌else◌, Option, None, Some}
use Rattle.con_units.specs.Attr.{Attribute}
use Rattle.con_units.specs.Glyph.{Glyph, cell_of as glyph_of}
use Rattle.con_units.specs.View.{row_of}
use Rattle.con_units.specs.Natural.{natural}
use Rattle.con_units.specs.declared.place.Coord.{Coord}
use Rattle.con_grid.specs.Picture.{Picture, part_lifted, part_lowered}

abbrev pub IsRowOf : Option (List Glyph) → ℕ → List Glyph → ℕ → Type 0
IsRowOf None width cells y = ⊥
IsRowOf (Some before) width cells y = row_of width cells y ≡ row_of width before y

-- the row is what it was when the number was last raised
abbrev pub IsUntouched : Picture → ℕ → Type 0
IsUntouched p y = IsRowOf p.moment p.width p.cells y

-- the place is one of the picture's
pub record IsInside (p : Picture) (at : Coord) : Type 0 where
  pub left : pos 0 ≤ℤ at.x
  pub top : pos 0 ≤ℤ at.y
  pub right : natural at.x < p.width
  pub bottom : natural at.y < p.height

-- there are as many cells as the sides say, and the sides are within their limits
pub record IsPicture (p : Picture) : Type 0 where
  pub wide : 0 < p.width
  pub tall : 0 < p.height
  pub at_most_wide : p.width ≤ 512
  pub at_most_tall : p.height ≤ 2048
  pub cells : length p.cells ≡ p.width * p.height

-- the cells that show the units in an attribute
abbrev pub glyphs_of : List ℕ → Attribute → List Glyph
glyphs_of units attr = map (λ u. glyph_of u attr) units

-- the rows from one up to another are lowered by a number of rows, or lifted where it is negative; what leaves them is
-- gone, and what is freed becomes `fill`
abbrev pub rows_shifted : Picture → ℕ → ℕ → ℤ → Glyph → Picture
rows_shifted p first end (pos n) fill = record p { cells = part_lowered p.cells (first * p.width) (end * p.width) (n * p.width) fill }
rows_shifted p first end (negsuc n) fill = record p { cells = part_lifted p.cells (first * p.width) (end * p.width) ((n + 1) * p.width) fill }

-- the cells from one place up to another become others
abbrev pub written_over : List Glyph → ℕ → ℕ → List Glyph → List Glyph
written_over cells from upto part = take from cells ++ (part ++ drop upto cells)

abbrev pub part_of : List Glyph → ℕ → ℕ → List Glyph
part_of cells from upto = take (upto - from) (drop from cells)

-- the cells from one place on show the units in an attribute
unfoldable pub units_put : List Glyph → ℕ → List ℕ → Attribute → List Glyph
units_put cells at units attr = written_over cells at (at + length units) (glyphs_of units attr)

-- the cell of a column and a row in cells of a width, or `blank` where there is none
abbrev pub cell_of : List Glyph → ℕ → ℕ → ℕ → Glyph → Glyph
cell_of cells width x y blank = if nat_lt x width then slice_index_or cells (y * width + x) blank else blank

-- Cells that are printed.
use Rattle.std.specs.Prelude.{ℕ, ◌+◌, ◌<◌, ◌≡◌, List, [], ◌∷◌, ◌++◌, length, take, drop, fold}
use Rattle.con_units.specs.Glyph.{Glyph}
use Rattle.con_units.specs.Stored.{stored_unit}
use Rattle.con_units.specs.Attr.{Attribute}
use Rattle.con_units.specs.Words.Attr.{IsAttribute}
use Rattle.con_term.specs.Page.{Page, printed}
use Rattle.con_strokes.specs.Ink.{pen_for}

-- a cell that a page can show
pub record IsCell (c : Glyph) : Type 0 where
  pub unit : stored_unit c.unit ≡ c.unit
  pub attr : IsAttribute c.attr
  pub fits : (c.unit < 0x10000) × (c.attr.word < 0x10000)

-- a cell is printed in its own attribute
abbrev pub cell_printed : Page → Glyph → Page
cell_printed s c = printed c.unit (record s { pen = pen_for c.attr })

unfoldable pub cells_printed : Page → List Glyph → Page
cells_printed s cs = fold cell_printed s cs

-- the cells from a place on become these
unfoldable pub pasted : List Glyph → ℕ → List Glyph → List Glyph
pasted cells at new = take at cells ++ new ++ drop (at + length new) cells

-- each cell is one that a page can show
abbrev pub AllCells : List Glyph → Type 0
AllCells [] = Unit {0}
AllCells (c ∷ cs) = IsCell c × AllCells cs

-- the attribute of the last cell, or the one before where there is none
abbrev pub last_attr : Attribute → List Glyph → Attribute
last_attr a [] = a
last_attr a (c ∷ cs) = last_attr c.attr cs

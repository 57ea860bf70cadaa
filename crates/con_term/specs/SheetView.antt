-- A sheet as contracts see it.
use Rattle.std.specs.Prelude.{ℕ, ◌≡◌, ◌-◌, ◌≤◌, List, length, drop, replicate}
use Rattle.con_units.specs.Glyph.{Glyph}
use Rattle.con_term.specs.declared.sheet.Sheet.TheInside.{Inside}

abbrev pub cells_of : Inside → List Glyph
cells_of s = s.cells.items

-- from a place on all cells are this one
abbrev pub AreBare : List Glyph → ℕ → Glyph → Type 0
AreBare cells from blank = drop from cells ≡ replicate (length cells - from) blank

pub record IsSheet (s : Inside) : Type 0 where
  pub within : s.bare ≤ length s.cells.items
  pub bare : AreBare s.cells.items s.bare s.blank

-- Printed units in one row, which are written without reading them unit by unit.
use Rattle.std.specs.Prelude.{ℕ, ◌≡◌, ◌+◌, ◌<◌, ◌≤◌, Bool, not, false, List, [], ◌∷◌, length, map, fold, slice_set, if◌then◌else◌}
use Rattle.con_units.specs.Attr.{Attribute}
use Rattle.con_units.specs.Glyph.{Glyph, cell_of}
use Rattle.con_units.specs.Stored.{is_control}
use Rattle.con_vtgram.specs.declared.item.Item.TheVariants as items
use Rattle.con_page.specs.Page.{Page, place, attr}
use Rattle.con_page.specs.Print.{line_of}
use Rattle.con_page.specs.Effect.{effect}

-- between sequences the unit is printed, whatever the mode
abbrev pub is_printed : ℕ → Bool
is_printed u = not (is_control u)

abbrev pub print_next : Page → ℕ → Page
print_next p u = effect p (items.Print u)

-- the page after prints, one after another
unfoldable pub all_printed : Page → List ℕ → Page
all_printed p us = fold print_next p us

-- what is written for a unit
abbrev pub drawn : Page → ℕ → ℕ
drawn p u = if p.drawing then line_of u else u

-- n units end before the row's last column, and do not move the window
pub record CanRun (p : Page) (n : ℕ) : Type 0 where
  pub late : p.late ≡ false
  pub inside : p.x + n < p.grid.width
  pub left : p.left ≤ p.x
  pub right : p.x + n < p.left + p.w
  pub top : p.top ≤ p.y
  pub bottom : p.y < p.top + p.h

abbrev pub run_cells : List Glyph → ℕ → Attribute → List ℕ → List Glyph
run_cells cells at a [] = cells
run_cells cells at a (u ∷ us) = run_cells (slice_set cells at (cell_of u a)) (at + 1) a us

-- the page with the units from the cursor on, as they are
unfoldable pub ran : Page → List ℕ → Page
ran p us = record p { grid = record p.grid { cells = run_cells p.grid.cells (place p) (attr p) us }; x = p.x + length us }

-- what prints leave that end before the row does
abbrev pub run_of : Page → List ℕ → Page
run_of p us = ran p (map (drawn p) us)

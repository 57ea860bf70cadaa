-- Columns of a row, one after another.
use Rattle.std.specs.Prelude.{ℕ, ◌+◌, ◌*◌, ◌<◌, ◌≤◌, ◌≡◌, Bool, true, false, List, [], ◌∷◌, length, take, replicate, slice_index_or}
use Rattle.con_units.specs.Glyph.{Glyph, blank_cell}
use Rattle.con_units.specs.View.{row_of}
use Rattle.con_term.specs.Page.{Page}
use Rattle.con_strokes.specs.Leads.{Leads}
use Rattle.con_paint.specs.Frame.{Stands}
use Rattle.con_strokes.specs.Paint.{pasted}
use Rattle.con_strokes.specs.Spot.{IsAt}
use Rattle.con_strokes.specs.declared.spot.State.{State}

-- the bytes make n cells from a place of a page on these, and print at most so many
pub record Columns (w h at : ℕ) (new_cells : List Glyph) (most : ℕ) (after : State) (old new : List ℕ) (s : Page) : Type 0 where
  pub to : Page
  pub count : ℕ
  pub leads : Leads old new s to count
  pub few : count ≤ most
  pub cells : to.cells ≡ pasted s.cells at new_cells
  pub stands : Stands w h after.attr to
  pub place : IsAt after.spot to
  pub visible : to.visible ≡ s.visible

-- a cell is printed in column x of row y, or nothing is written
abbrev pub ColumnStep : Bool → ℕ → ℕ → ℕ → Glyph → State → List ℕ → List ℕ → State → Type 0
ColumnStep true w y x c before old new after = (new ≡ old) × (after ≡ before)
ColumnStep false w y x c before old new after = (h : ℕ) (s : Page) → Stands w h before.attr s → IsAt before.spot s → y < h → x < w
    → Columns w h (y * w + x) (c ∷ []) 1 after old new s

-- n cells are erased from column x of row y on
abbrev pub RunStep : ℕ → ℕ → ℕ → ℕ → State → List ℕ → List ℕ → State → Type 0
RunStep w y x n before old new after = (h : ℕ) (s : Page) → Stands w h before.attr s → IsAt before.spot s → y < h
    → Columns w h (y * w + x) (replicate n blank_cell) n after old new s

-- the first n columns of a row are as they are to be, where the columns before the first that is looked at are so
abbrev pub FirstColumns : Bool → List Glyph → List Glyph → ℕ → ℕ → ℕ → State → List ℕ → List ℕ → State → Type 0
FirstColumns known row was y from n before old new after =
    (h : ℕ) (s : Page) → Stands (length row) h before.attr s → IsAt before.spot s → y < h → (known ≡ true → row_of (length row) s.cells y ≡ was)
    → take from row ≡ take from (row_of (length row) s.cells y)
    → Columns (length row) h (y * length row) (take n row) n after old new s

-- two rows have the same cell in a column
abbrev pub IsSameAt : List Glyph → List Glyph → ℕ → Type 0
IsSameAt row was x = (c : Glyph) → slice_index_or row x c ≡ slice_index_or was x c

-- the first columns of a row are as they are to be, wherever as many as were done were so
abbrev pub MoreColumns : Bool → List Glyph → List Glyph → ℕ → ℕ → ℕ → State → List ℕ → List ℕ → State → Type 0
MoreColumns known row was y done n before old new after = (from : ℕ) (start : State) (first : List ℕ)
    → FirstColumns known row was y from done start first old before → FirstColumns known row was y from n start first new after

-- What a frame brings a terminal to.
use Rattle.std.specs.Prelude.{ℕ, ◌*◌, ◌<◌, ◌≤◌, ◌≡◌, Bool, true, false, List, ◌++◌, length, take, drop, if◌then◌else◌}
use Rattle.con_units.specs.Attr.{Attribute}
use Rattle.con_units.specs.Glyph.{Glyph}
use Rattle.con_units.specs.View.{row_of}
use Rattle.con_term.specs.Page.{Page, IsPage}
use Rattle.con_strokes.specs.Leads.{Leads}
use Rattle.con_strokes.specs.Ink.{pen_for}
use Rattle.con_strokes.specs.Compared.{differing}
use Rattle.con_strokes.specs.Paint.{pasted}
use Rattle.con_strokes.specs.Spot.{IsAt}
use Rattle.con_strokes.specs.declared.spot.State.{State}

-- of the first y rows, how many are painted: those that differ from what is known, or all
abbrev pub rows_to_paint : Bool → ℕ → ℕ → List Glyph → List Glyph → ℕ
rows_to_paint known w y v shadow = if known then differing w y v shadow else y

-- the first places are those of one list, and the rest is another's
abbrev pub mixed : List Glyph → List Glyph → ℕ → List Glyph
mixed v cells n = take n v ++ drop n cells

-- a page of this size
pub record Sized (w h : ℕ) (s : Page) : Type 0 where
  pub page : IsPage s
  pub wide : s.w ≡ w
  pub high : s.h ≡ h

-- a page of this size, with this attribute's pen
pub record Stands (w h : ℕ) (ink : Attribute) (s : Page) : Type 0 where
  pub page : IsPage s
  pub wide : s.w ≡ w
  pub high : s.h ≡ h
  pub pen : s.pen ≡ pen_for ink

-- the bytes make row y of a page this row, and print or erase at most its width
pub record Painted (w h y : ℕ) (after : State) (row : List Glyph) (old new : List ℕ) (s : Page) : Type 0 where
  pub to : Page
  pub count : ℕ
  pub leads : Leads old new s to count
  pub few : count ≤ w
  pub cells : to.cells ≡ pasted s.cells (y * w) row
  pub stands : Stands w h after.attr to
  pub place : IsAt after.spot to
  pub visible : to.visible ≡ s.visible

-- a row is painted, or nothing is written
abbrev pub RowStep : Bool → Bool → ℕ → List Glyph → List Glyph → State → List ℕ → List ℕ → State → Type 0
RowStep true known y row was before old new after = (h : ℕ) (s : Page) → Stands (length row) h before.attr s → IsAt before.spot s → y < h
    → (known ≡ true → row_of (length row) s.cells y ≡ was) → Painted (length row) h y after row old new s
RowStep false known y row was before old new after = (new ≡ old) × (after ≡ before)

-- the first y rows of a page are painted, where they had to be
pub record Reach (w h : ℕ) (v : List Glyph) (after : State) (n y : ℕ) (old new : List ℕ) (s : Page) : Type 0 where
  pub to : Page
  pub count : ℕ
  pub leads : Leads old new s to count
  pub few : count ≤ n
  pub stands : Stands w h after.attr to
  pub place : IsAt after.spot to
  pub cells : to.cells ≡ mixed v s.cells (y * w)
  pub visible : to.visible ≡ s.visible

-- the bytes paint the first y rows of every page that is as far as it is known, and there are none where nothing differs
pub record Rows (w h : ℕ) (v shadow : List Glyph) (known : Bool) (before : State) (old new : List ℕ) (y : ℕ) (after : State) : Type 0 where
  pub reach : (s : Page) → Stands w h before.attr s → IsAt before.spot s → (known ≡ true → s.cells ≡ shadow)
      → Reach w h v after (w * rows_to_paint known w y v shadow) y old new s
  pub quiet : known ≡ true → v ≡ shadow → (new ≡ old) × (after ≡ before)

-- Frames that lift the rows of a terminal.
use Rattle.std.specs.Prelude.{ℕ, ◌-◌, ◌*◌, ◌<◌, ◌≤◌, ◌≡◌, Bool, true, false, List, ◌++◌, length, drop, replicate}
use Rattle.con_units.specs.Attr.{Attribute}
use Rattle.con_units.specs.Glyph.{Glyph, blank_cell}
use Rattle.con_units.specs.View.{row_of}
use Rattle.con_vtgram.specs.Pen.{IsPen}
use Rattle.con_term.specs.Steps.{lifted}
use Rattle.con_term.specs.Page.{Page}
use Rattle.con_strokes.specs.Leads.{Leads}
use Rattle.con_strokes.specs.Ink.{pen_for}
use Rattle.con_strokes.specs.Compared.{differing, IsLifted}
use Rattle.con_paint.specs.Frame.{Sized}
use Rattle.con_strokes.specs.Spot.{IsAt}
use Rattle.con_strokes.specs.declared.spot.Spot.{Spot}

-- the cells go up by a count of places, and blanks in the starting attribute come behind
abbrev pub lifted_cells : List Glyph → ℕ → List Glyph
lifted_cells cells count = drop count cells ++ replicate count blank_cell

-- the least k below n by which the rows are lifted, or n
pub record IsLeastBelow (w h n : ℕ) (v old : List Glyph) (k : ℕ) : Type 0 where
  pub some : 0 < k
  pub most : k ≤ n
  pub is : k < n → IsLifted w h k v old
  pub least : (j : ℕ) → 0 < j → j < k → IsLifted w h j v old → ⊥

-- the bytes lift a page's rows, and leave its cursor in its row
pub record Rises (by : ℕ) (after : Spot) (old new : List ℕ) (s : Page) : Type 0 where
  pub x : ℕ
  pub leads : Leads old new s (record (lifted s by) { x = x }) 0
  pub inside : s.x < s.w → x < s.w
  pub place : IsAt after (record s { x = x })

-- the bytes bring a page to these cells, in a pen, and leave its cursor in its row
pub record Lifted (w : ℕ) (cells : List Glyph) (after : Spot) (ink : Attribute) (old new : List ℕ) (s : Page) : Type 0 where
  pub x : ℕ
  pub leads : Leads old new s (record s { cells = cells; x = x; pen = pen_for ink }) 0
  pub inside : x < w
  pub place : IsAt after (record s { x = x })

-- the bytes bring a terminal to a known pen, and lift its rows or not
pub record Lifts (w h : ℕ) (known : Bool) (v was now : List Glyph) (at after : Spot) (before ink : Attribute) (every : Bool) (rows : ℕ)
    (old new : List ℕ) : Type 0 where
  pub leads : (s : Page) → Sized w h s → IsAt at s → (known ≡ true → s.pen ≡ pen_for before) → (known ≡ true → s.cells ≡ was)
      → (cells : List Glyph) × Lifted w cells after ink old new s × (length cells ≡ h * w) × (known ≡ true → cells ≡ now)
  pub pen : (known ≡ true → IsPen (pen_for before)) → IsPen (pen_for ink)
  pub same : every ≡ false → now ≡ was
  pub size : length now ≡ h * w
  pub inside : rows ≤ h
  pub front : known ≡ true → every ≡ true → (y : ℕ) → y < h - rows → row_of w v y ≡ row_of w now y
  pub few : known ≡ true → differing w h v now ≤ differing w h v was
  pub lifted : known ≡ true → (k : ℕ) → 0 < k → k ≤ h → IsLifted w h k v was → differing w h v now ≤ k
  pub quiet : known ≡ true → v ≡ was → (new ≡ old) × (now ≡ was) × (ink ≡ before) × (rows ≡ 0) × (after ≡ at)

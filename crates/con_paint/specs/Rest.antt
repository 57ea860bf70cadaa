-- The last rows of a page, where they are blank.
use Rattle.std.specs.Prelude.{ℕ, ◌-◌, ◌*◌, ◌<◌, ◌≤◌, ◌≡◌, true, false, List}
use Rattle.con_units.specs.Attr.{plain}
use Rattle.con_units.specs.Glyph.{blank_cell}
use Rattle.con_term.specs.Page.{Page, filled}
use Rattle.con_strokes.specs.Leads.{Leads}
use Rattle.con_strokes.specs.Ink.{pen_for}
use Rattle.con_strokes.specs.Spot.{IsAt}
use Rattle.con_strokes.specs.declared.spot.State.{State}

-- all rows from this one on are blank, and the cursor stands at their first cell
abbrev pub cleared_from : ℕ → Page → Page
cleared_from tail s = record s { cells = filled s.cells (tail * s.w) (s.h * s.w) blank_cell; x = 0; y = tail; pen = pen_for (plain 7); pending = false }

-- the rows from this one on are erased, or there are none
pub record RestStep (w h tail : ℕ) (before : State) (old new : List ℕ) (after : State) : Type 0 where
  pub none : h ≤ tail → (new ≡ old) × (after ≡ before)
  pub some : tail < h → ((s : Page) → s.pen ≡ pen_for before.attr → IsAt before.spot s → s.w ≡ w → s.h ≡ h
      → Leads old new s (cleared_from tail s) (h * w - tail * w)) × (after ≡ record { attr = plain 7; spot = record { known = true; x = 0; y = tail } })

-- The part of a row that is written.
use Rattle.std.specs.Prelude.{ℕ, ◌+◌, ◌-◌, ◌*◌, ◌<◌, ◌≤◌, ◌≡◌, Bool, true, false, List, length, take, drop, replicate}
use Rattle.con_units.specs.Attr.{plain}
use Rattle.con_units.specs.Glyph.{Glyph, blank_cell}
use Rattle.con_term.specs.Page.{Page, filled}
use Rattle.con_strokes.specs.Leads.{Leads}
use Rattle.con_strokes.specs.Ink.{pen_for}
use Rattle.con_strokes.specs.Paint.{pasted}
use Rattle.con_strokes.specs.Spot.{IsAt}
use Rattle.con_strokes.specs.declared.spot.State.{State}
use Rattle.con_paint.specs.declared.span.Span.{Span}

-- the columns lie in the row
pub record IsSpan (row : List Glyph) (s : Span) : Type 0 where
  pub starts : s.from < length row
  pub order : s.from ≤ s.upto
  pub ends : s.upto ≤ length row
  pub erased : s.erase ≡ true → s.upto < length row

-- the cells of row y are blank from a column on, where the cursor stands in the starting pen
abbrev pub end_erased : Page → ℕ → ℕ → Page
end_erased s x y = record s { cells = filled s.cells (y * s.w + x) (y * s.w + s.w) blank_cell; x = x; y = y; pen = pen_for (plain 7); pending = false }

-- the row's cells from one column up to another
abbrev pub piece : List Glyph → ℕ → ℕ → List Glyph
piece row from upto = take (upto - from) (drop from row)

-- cells behind the columns that were written, or blanks
abbrev pub behind : Bool → List Glyph → ℕ → List Glyph
behind true cells upto = pasted cells upto (replicate (length cells - upto) blank_cell)
behind false cells upto = cells

-- what stands in a row after its columns are written
abbrev pub patched : List Glyph → List Glyph → Span → List Glyph
patched now row s = behind s.erase (pasted now s.from (piece row s.from s.upto)) s.upto

-- the end of row y is erased from a column on, in the starting pen, or nothing is written
abbrev pub RowEnd : Bool → ℕ → ℕ → State → State → List ℕ → List ℕ → Type 0
RowEnd true x y before after old new = ((s : Page) → s.pen ≡ pen_for before.attr → IsAt before.spot s → (x < s.w) × (y < s.h)
    → Leads old new s (end_erased s x y) (s.w - x)) × (after ≡ record { attr = plain 7; spot = record { known = true; x = x; y = y } })
RowEnd false x y before after old new = (new ≡ old) × (after ≡ before)

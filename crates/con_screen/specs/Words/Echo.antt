-- The words of the code and of laws about Echo, which a reader need not believe.
use Rattle.std.specs.Prelude.{ℕ, pos, ◌≡◌, ◌+◌, ◌-◌, ◌+ℤ◌, ◌-ℤ◌, ◌*ℤ◌, ◌<ℤ◌, ◌↔◌, ◌<◌, ◌≤◌, ◌/◌, List, length, take, drop}
use Rattle.con_units.specs.Glyph.{Glyph}
use Rattle.con_units.specs.Words.Units.{first_difference}
use Rattle.con_page.specs.Page.{Page}
use Rattle.con_page.specs.Echo.{origin_after, rows_past, ruled, changed}
use Rattle.con_page.specs.Words.Echo.{part_rule}
use Rattle.con_page.specs.declared.origin.Origin.{Origin}
use Rattle.con_screen.specs.Screen.{Screen}
use Rattle.con_screen.specs.Echo.{Echoed, echoed}

-- what `echoed` says, by the line's units from `offset` on, and how many places behind them become blank
abbrev pub part_echoed : Screen → Origin → ℕ → List ℕ → ℕ → ℕ → Echoed
part_echoed s o offset units blanks caret = record {
  screen = record s { page = changed s.page o (offset + length units) (part_rule s.page offset units blanks) caret };
  origin = origin_after s.page o (offset + length units);
}

-- What Echo says, in whole numbers.
pub record IsLaidRowByRow : Type 0 where
  -- place k of the line is the k-th cell after the origin
  pub place : (p : Page) (o : Origin) (rule : ℕ → Glyph → Glyph) (i k : ℕ) (was : Glyph) → pos i ≡ o.y *ℤ pos p.grid.width +ℤ pos (o.x + k)
      → ruled p o rule i was ≡ rule k was
  -- a cell before the origin is no place of the line
  pub before : (p : Page) (o : Origin) (rule : ℕ → Glyph → Glyph) (i : ℕ) (was : Glyph) → pos i <ℤ (o.y *ℤ pos p.grid.width +ℤ pos o.x)
      → ruled p o rule i was ≡ was
  -- a scroll by n rows brings place k in, or above row 0, exactly where n is not less than the number of rows that it scrolls
  pub least : (p : Page) (o : Origin) (k n : ℕ) → 0 < p.grid.height
      → (rows_past p o k ≤ n) ↔ (((o.y +ℤ pos ((o.x + k) / p.grid.width)) -ℤ pos n) <ℤ pos p.grid.height)

-- The first difference, the units from there on, by how much the text became shorter, and the caret determine what the
-- whole texts do.
pub record IsEchoedByPart : Type 0 where
  pub by_part : (s : Screen) (o : Origin) (old new : List ℕ) (caret : ℕ) →
      part_echoed s o (first_difference old new) (take (length new - first_difference old new) (drop (first_difference old new) new))
      (length old - length new) caret
      ≡ echoed s o old new caret

-- What a frame's bytes make of a page.
use Rattle.std.specs.Prelude.{ℕ, ◌≤◌, ◌≡◌, List}
use Rattle.con_units.specs.Glyph.{Glyph}
use Rattle.con_term.specs.Page.{Page}
use Rattle.con_strokes.specs.Leads.{Leads}
use Rattle.con_paint.specs.Frame.{Stands}
use Rattle.con_strokes.specs.Spot.{IsAt}
use Rattle.con_paint.specs.declared.frame.Caret.{Caret}
use Rattle.con_strokes.specs.declared.spot.State.{State}

-- the bytes bring a page to these cells and this caret, and print or erase at most so many cells
pub record Drawn (w h : ℕ) (v : List Glyph) (most : ℕ) (caret : Caret) (after : State) (old new : List ℕ) (s : Page) : Type 0 where
  pub to : Page
  pub count : ℕ
  pub leads : Leads old new s to count
  pub few : count ≤ most
  pub stands : Stands w h after.attr to
  pub cells : to.cells ≡ v
  pub place : IsAt after.spot to
  pub visible : to.visible ≡ caret.visible

-- What texts, echoes and setters leave alone.
use Rattle.std.specs.Prelude.{ℕ, List, Option}
use Rattle.con_units.specs.Glyph.{Glyph}
use Rattle.con_page.specs.Page.{Page}

-- the sides of a buffer and of its window, the grid's number, and its cells when the number was last raised
pub record Sides : Type 0 where
  pub width : ℕ
  pub height : ℕ
  pub w : ℕ
  pub h : ℕ
  pub now : ℕ
  pub moment : Option (List Glyph)

abbrev pub sides : Page → Sides
sides p = record { width = p.grid.width; height = p.grid.height; w = p.w; h = p.h; now = p.grid.now; moment = p.grid.moment }

-- The words of the code and of laws about Setters, which a reader need not believe.
use Rattle.std.specs.Prelude.{pos, ◌≤ℤ◌, ◌+◌, ◌≤◌}
use Rattle.con_units.specs.Natural.{natural}
use Rattle.con_units.specs.declared.place.Coord.{Coord}
use Rattle.con_page.specs.Page.{Page}

-- the window stays in the buffer with its corner there
pub record IsOrigin (p : Page) (at : Coord) : Type 0 where
  pub left : pos 0 ≤ℤ at.x
  pub top : pos 0 ≤ℤ at.y
  pub right : natural at.x + p.w ≤ p.grid.width
  pub bottom : natural at.y + p.h ≤ p.grid.height

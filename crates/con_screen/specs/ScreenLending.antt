-- The grid of a screen is lent.
use Rattle.std.specs.Borrow.{Lends, MutBor, Fml}
use Rattle.con_grid.specs.Picture.{Picture}
use Rattle.con_grid.specs.contracts.grid.Grid as grid
use Rattle.con_page.specs.PageLending.{with_grid}
use Rattle.con_screen.specs.Screen.{Screen}
use Rattle.con_screen.specs.contracts.screen.Screen.{the_row}

abbrev pub grid_left : Screen → Picture → Screen
grid_left s g = record s { page = with_grid s.page g }

-- the screen ends with the last grid behind r
abbrev pub LendsGrid : MutBor Screen → MutBor Picture → Fml
LendsGrid s r = Lends the_row grid.the_row s r (grid_left s.now)

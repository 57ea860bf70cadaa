-- The grid of a page is lent.
use Rattle.std.specs.Borrow.{Lends, MutBor, Fml}
use Rattle.con_grid.specs.Picture.{Picture}
use Rattle.con_grid.specs.contracts.grid.Grid as grid
use Rattle.con_page.specs.Page.{Page}
use Rattle.con_page.specs.contracts.page.Page.{the_row}

abbrev pub with_grid : Page → Picture → Page
with_grid p g = record p { grid = g }

-- the page ends with the last grid behind r
abbrev pub LendsGrid : MutBor Page → MutBor Picture → Fml
LendsGrid s r = Lends the_row grid.the_row s r (with_grid s.now)

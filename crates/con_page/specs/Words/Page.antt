-- The words of the code and of laws about Page, which a reader need not believe.
use Rattle.std.specs.Prelude.{ℕ, ◌+◌, ◌<◌, ◌≡◌, ◌≤◌, length, Option, None, Some}
use Rattle.con_grid.specs.Words.Picture.{IsPicture}
use Rattle.con_vtgram.specs.Pen.{IsPen}
use Rattle.con_page.specs.Page.{Page}
use Rattle.con_page.specs.declared.margins.Margins.{Margins}

abbrev pub AreMargins : ℕ → Option Margins → Type 0
AreMargins h None = Unit {0}
AreMargins h (Some m) = (0 < m.top) × (m.top < m.bottom) × (m.bottom ≤ h)

pub record IsPage (p : Page) : Type 0 where
  pub grid : IsPicture p.grid
  pub column : p.x < p.grid.width
  pub row : p.y < p.grid.height
  pub cursor_size : p.cursor_size ≤ 100
  pub wide : 0 < p.w
  pub tall : 0 < p.h
  pub low : p.h ≤ 256
  pub right : p.left + p.w ≤ p.grid.width
  pub bottom : p.top + p.h ≤ p.grid.height
  pub pen : IsPen p.pen
  pub saved_column : p.saved_x < p.grid.width
  pub saved_row : p.saved_y < p.grid.height
  pub margins : AreMargins p.h p.margins
  pub tabs : length p.tabs ≡ p.grid.width

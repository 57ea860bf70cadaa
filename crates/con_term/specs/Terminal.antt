-- A terminal, and the views that it shows.
use Rattle.std.specs.Prelude.{◌≡◌, ℕ, pos, true, List, []}
use Rattle.con_units.specs.declared.view.View.{View}
use Rattle.con_term.specs.Page.{Page, IsPage}

-- a page, the bytes that are no character yet, and the units that are no item yet
pub record Terminal : Type 0 where
  pub page : Page
  pub bytes : List ℕ
  pub units : List ℕ

-- a terminal of this size, between sequences
pub record IsTerminal (w h : ℕ) (t : Terminal) : Type 0 where
  pub page : IsPage t.page
  pub wide : t.page.w ≡ w
  pub high : t.page.h ≡ h
  pub no_bytes : t.bytes ≡ []
  pub no_units : t.units ≡ []

-- the terminal shows the view, between sequences
pub record Shows (t : Terminal) (v : View) : Type 0 where
  pub width : t.page.w ≡ v.size.w
  pub height : t.page.h ≡ v.size.h
  pub cells : t.page.cells ≡ v.rows
  pub visible : t.page.visible ≡ v.visible
  pub column : v.visible ≡ true → pos t.page.x ≡ v.cursor.x
  pub row : v.visible ≡ true → pos t.page.y ≡ v.cursor.y
  pub no_bytes : t.bytes ≡ []
  pub no_units : t.units ≡ []

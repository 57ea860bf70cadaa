-- A page as contracts see it.
use Rattle.con_term.specs.Page.{Page, IsPage}
use Rattle.con_term.specs.declared.page.Page.TheInside.{Inside}

abbrev pub page_of : Inside → Page
page_of p = record { w = p.size.w; h = p.size.h; cells = p.cells; x = p.x; y = p.y; pen = p.pen; pending = p.pending; visible = p.visible }

pub record IsHeldPage (p : Inside) : Type 0 where
  pub page : IsPage (page_of p)

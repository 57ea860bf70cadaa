-- A page as contracts see it.
use Rattle.con_page.specs.Page.{Page}
use Rattle.con_page.specs.declared.page.Page.TheInside.{Inside}

abbrev pub page_of : Inside → Page
page_of b = record {
  grid = b.grid;
  x = b.x;
  y = b.y;
  visible = b.visible;
  cursor_size = b.cursor_size;
  left = b.left;
  top = b.top;
  w = b.w;
  h = b.h;
  mode = b.mode;
  pen = b.pen;
  saved_x = b.saved_x;
  saved_y = b.saved_y;
  margins = b.margins;
  tabs = b.tabs.items;
  drawing = b.drawing;
  late = b.late;
}

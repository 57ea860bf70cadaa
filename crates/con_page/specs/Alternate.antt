-- The page of an alternate screen.
use Rattle.std.specs.Prelude.{◌*◌, replicate}
use Rattle.con_page.specs.Page.{Page, blank}
use Rattle.con_page.specs.Setters.{new_page}

-- when it comes to be shown: blank in the main screen's pen, with its pen, mode, cursor size and visibility
abbrev pub alternate_page : Page → Page → Page
alternate_page own main = record (new_page (record { w = own.grid.width; h = own.grid.height }) (record { w = own.w; h = own.h })) {
  grid = record own.grid { cells = replicate (own.grid.width * own.grid.height) (blank main) };
  visible = main.visible;
  cursor_size = main.cursor_size;
  mode = main.mode;
  pen = main.pen;
}

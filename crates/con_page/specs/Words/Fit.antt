-- The words of the code and of laws about Fit, which a reader need not believe.
use Rattle.std.specs.Prelude.{ℕ, ◌≡◌, ◌-◌, ◌<◌, ◌≤◌, ◌==◌, false, min, List, length, Bool, None, if◌then◌else◌}
use Rattle.con_units.specs.declared.place.Size.{Size}
use Rattle.con_grid.specs.Picture.{Picture, resized}
use Rattle.con_grid.specs.Words.Picture.{IsPicture}
use Rattle.con_page.specs.Page.{Page, blank}
use Rattle.con_page.specs.Setters.{default_tabs}
use Rattle.con_page.specs.Fit.{within}

-- what is made ready for a resize: the sizes of the buffer and the window, the buffer's cells, and its default tab stops
pub record Fit : Type 0 where
  pub buffer : Size
  pub window : Size
  pub grid : Picture
  pub tabs : List Bool

-- the window fits into the buffer, and both are within their limits
pub record AreSizes (buffer window : Size) : Type 0 where
  pub some : (0 < window.w) × (0 < window.h)
  pub inside : (window.w ≤ buffer.w) × (window.h ≤ buffer.h)
  pub few : (buffer.w ≤ 512) × (buffer.h ≤ 2048) × (window.h ≤ 256)

-- ---- as the code makes it

-- how many rows go at the top
abbrev pub lost_rows : Page → ℕ → ℕ
lost_rows p h = min (p.grid.height - h) (p.y - (h - 1))

-- the cells that stay; new ones are spaces in the pen's attribute
abbrev pub refitted_grid : Page → Size → Picture
refitted_grid p buffer = resized p.grid buffer.w buffer.h (lost_rows p buffer.h) (blank p)

-- it was made for this page
pub record IsFit (p : Page) (f : Fit) : Type 0 where
  pub sizes : AreSizes f.buffer f.window
  pub grid : f.grid ≡ refitted_grid p f.buffer
  pub picture : IsPicture f.grid
  pub tabs : f.tabs ≡ default_tabs f.buffer.w
  pub stops : length f.tabs ≡ f.buffer.w

-- before the window shows the cursor
abbrev pub moved_in : Page → Size → Size → Page
moved_in p buffer window = let lost = lost_rows p buffer.h in record p {
  grid = refitted_grid p buffer;
  x = within buffer.w p.x;
  y = within buffer.h (p.y - lost);
  saved_x = within buffer.w p.saved_x;
  saved_y = within buffer.h (p.saved_y - lost);
  left = min p.left (buffer.w - window.w);
  top = min (p.top - lost) (buffer.h - window.h);
  w = window.w;
  h = window.h;
  margins = None;
  tabs = if buffer.w == p.grid.width then p.tabs else default_tabs buffer.w;
  late = false;
}

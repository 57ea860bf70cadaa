-- A new screen, what sets its parts, and what there is to know of it.
use Rattle.std.specs.Prelude.{ℕ, zero, suc, pos, ◌+◌, ◌-◌, ◌*◌, ◌/◌, ◌%◌, ◌==◌, ◌&&◌, Bool, true, false, nat_lt, List, [], ◌∷◌, ◌++◌, replicate, None}
use Rattle.con_units.specs.Glyph.{blank_in}
use Rattle.con_units.specs.declared.place.Size.{Size}
use Rattle.con_vtgram.specs.Pen.{attr_of, starting_pen}
use Rattle.con_page.specs.Mode.{mode_of, number_of}
use Rattle.con_page.specs.Page.{Page, attr, shown}
use Rattle.con_vtgram.specs.declared.pen.Pen.{Pen}
use Rattle.con_page.specs.declared.info.Info.{Info}

-- a tab stops at columns 8, 16, 24 and so on
abbrev pub default_tabs : ℕ → List Bool
default_tabs zero = []
default_tabs (suc n) = default_tabs n ++ (nat_lt 0 n && (n % 8 == 0)) ∷ []

abbrev pub new_page : Size → Size → Page
new_page buffer window = record {
  grid = record { width = buffer.w; height = buffer.h; cells = replicate (buffer.w * buffer.h) (blank_in (attr_of starting_pen)); now = 0; moment = None };
  x = 0;
  y = 0;
  visible = true;
  cursor_size = 25;
  left = 0;
  top = 0;
  w = window.w;
  h = window.h;
  mode = mode_of 3;
  pen = starting_pen;
  saved_x = 0;
  saved_y = 0;
  margins = None;
  tabs = default_tabs buffer.w;
  drawing = false;
  late = false;
}

abbrev pub cursor_set : Page → ℕ → ℕ → Page
cursor_set p x y = shown (record p { x = x; y = y; late = false })

abbrev pub origin_set : Page → ℕ → ℕ → Page
origin_set p x y = record p { left = x; top = y }

-- the pen of an attribute word, with plain shades and without bold
abbrev pub pen_of_word : ℕ → Pen
pen_of_word n = record starting_pen { foreground = n % 16; background = n / 16 % 16; underline = n / 0x8000 % 2 == 1; negative = n / 0x4000 % 2 == 1 }

abbrev pub info_of : Page → Info
info_of p = record {
  buffer = record { w = p.grid.width; h = p.grid.height };
  cursor = record { x = pos p.x; y = pos p.y };
  word = (attr p).word;
  window = record { left = pos p.left; top = pos p.top; right = pos (p.left + p.w - 1); bottom = pos (p.top + p.h - 1) };
  mode = number_of p.mode;
  cursor_size = p.cursor_size;
  visible = p.visible;
}

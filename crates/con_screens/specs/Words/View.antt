-- The words of the code and of laws about View, which a reader need not believe.
use Rattle.std.specs.Prelude.{pos, ◌-◌, if◌then◌else◌}
use Rattle.con_units.specs.declared.place.Coord.{Coord}
use Rattle.con_page.specs.Page.{Page}
use Rattle.con_screens.specs.View.{cursor_shown}

-- where the cursor stands, from the window's corner; (0, 0) where it is not shown
abbrev pub cursor_in : Page → Coord
cursor_in p = if cursor_shown p then record { x = pos (p.x - p.left); y = pos (p.y - p.top) } else record { x = pos 0; y = pos 0 }

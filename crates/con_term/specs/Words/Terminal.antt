-- The words of the code and of laws about Terminal, which a reader need not believe.
use Rattle.std.specs.Prelude.{pos, if◌then◌else◌}
use Rattle.con_units.specs.declared.place.Coord.{Coord}
use Rattle.con_units.specs.declared.view.View.{View}
use Rattle.con_term.specs.Page.{Page}

-- what a page shows; a hidden cursor stands in the upper left cell
abbrev pub cursor_of : Page → Coord
cursor_of s = if s.visible then record { x = pos s.x; y = pos s.y } else record { x = pos 0; y = pos 0 }

abbrev pub view_of : Page → View
view_of s = record { size = record { w = s.w; h = s.h }; rows = s.cells; cursor = cursor_of s; visible = s.visible }

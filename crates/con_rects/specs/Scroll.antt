-- What a scroll makes of a grid.
use Rattle.std.specs.Prelude.{pos, ◌-ℤ◌, true, not, Option, if◌then◌else◌}
use Rattle.std.specs.Option.{option_map_or}
use Rattle.con_units.specs.Glyph.{Glyph}
use Rattle.con_units.specs.Natural.{natural}
use Rattle.con_units.specs.declared.place.Coord.{Coord}
use Rattle.con_units.specs.declared.place.Rect.{Rect}
use Rattle.con_grid.specs.Picture.{Picture}
use Rattle.con_rects.specs.Area.{covers, used_rect}
use Rattle.con_rects.specs.Rules.{cell_at, redrawn}

-- the grid after a scroll: a place takes the cell that stood as far from it as the source's corner is from `dest`, where that cell lies in the part of the
-- source that the grid has; any other place of that part becomes `fill`; all others stay, and so does what is outside the clip, if there is one
unfoldable pub scrolled : Picture → Rect → Option Rect → Coord → Glyph → Picture
scrolled p source clip dest fill = let used = used_rect source p.width p.height in redrawn p (λ x y.
    let from_x = pos x -ℤ (dest.x -ℤ source.left) in let from_y = pos y -ℤ (dest.y -ℤ source.top) in
    if not (option_map_or (λ r. covers r (pos x) (pos y)) clip true) then cell_at p x y
    else if covers used from_x from_y then cell_at p (natural from_x) (natural from_y)
    else if covers used (pos x) (pos y) then fill else cell_at p x y)

-- A scroll in natural numbers, as it is done: cells are moved first, and what they leave is filled then.
use Rattle.std.specs.Prelude.{ℕ, ◌+◌, ◌-◌, ◌-ℤ◌, ◌<◌, ◌≤◌, max, min, Bool, not, nat_lt, ◌==◌, ◌&&◌, ◌||◌, Option, Some, None, if◌then◌else◌}
use Rattle.con_units.specs.Glyph.{Glyph}
use Rattle.con_units.specs.Natural.{natural}
use Rattle.con_units.specs.declared.place.Coord.{Coord}
use Rattle.con_units.specs.declared.place.Rect.{Rect}
use Rattle.con_grid.specs.Picture.{Picture}
use Rattle.con_rects.specs.Parts.{area_in, is_within}
use Rattle.con_rects.specs.Rules.{cell_at}
use Rattle.con_rects.specs.declared.area.Area.{Area}
use Rattle.con_rects.specs.declared.scroll.Shift.{Shift}

-- how far it is from a rectangle's corner to a place
abbrev pub shift_to : Rect → Coord → Shift
shift_to source dest = record {
  right = natural (dest.x -ℤ source.left);
  left = natural (source.left -ℤ dest.x);
  down = natural (dest.y -ℤ source.top);
  up = natural (source.top -ℤ dest.y);
}

-- the places that may change
abbrev pub clip_area : Option Rect → ℕ → ℕ → Area
clip_area None w h = record { left = 0; top = 0; right = w; bottom = h }
clip_area (Some clip) w h = area_in clip w h

-- what two areas have in common
abbrev pub common : Area → Area → Area
common a b = record { left = max a.left b.left; top = max a.top b.top; right = min a.right b.right; bottom = min a.bottom b.bottom }

-- an area as far away as a shift says
abbrev pub shifted : Area → Shift → Area
shifted a s = record { left = a.left + s.right - s.left; top = a.top + s.down - s.up; right = a.right + s.right - s.left; bottom = a.bottom + s.down - s.up }

-- the new cell of a column and a row when cells are moved into an area
abbrev pub move_rule : Picture → Area → Shift → ℕ → ℕ → Glyph
move_rule p to s x y = if is_within to x y then cell_at p (x + s.left - s.right) (y + s.up - s.down) else cell_at p x y

-- the new cell of a column and a row when what is left of an area is filled
abbrev pub free_rule : Picture → Area → Area → Glyph → ℕ → ℕ → Glyph
free_rule p from to fill x y = if is_within from x y && not (is_within to x y) then fill else cell_at p x y

-- a shift goes up, or to the left in its row
abbrev pub goes_back : Shift → Bool
goes_back s = (s.down == 0) && (nat_lt 0 s.up || (s.right == 0))

-- it goes down, or to the right in its row
abbrev pub goes_on : Shift → Bool
goes_on s = (s.up == 0) && (nat_lt 0 s.down || (s.left == 0))

-- the cells that come into the area are cells of the grid
pub record ComesFrom (p : Picture) (to : Area) (s : Shift) : Type 0 where
  pub small : s.left < 131072
  pub low : s.up < 131072
  pub from_left : s.right ≤ to.left + s.left
  pub to_right : to.right + s.left ≤ p.width + s.right
  pub from_top : s.down ≤ to.top + s.up
  pub to_bottom : to.bottom + s.up ≤ p.height + s.down
  pub right : to.right ≤ p.width
  pub bottom : to.bottom ≤ p.height

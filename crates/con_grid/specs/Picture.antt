-- A grid of cells as contracts see it, and what changes it.
use Rattle.std.specs.Prelude.{ℕ, ◌+◌, ◌-◌, ◌*◌, ◌/◌, ◌%◌, nat_lt, List, ◌++◌, length}
use Rattle.std.specs.Prelude.{take, drop, map, replicate, min, slice_index_or, slice_range, if◌then◌else◌, Option, None, Some}
use Rattle.std.specs.List.{range_with_len, splice}
use Rattle.con_units.specs.Glyph.{Glyph}
use Rattle.con_units.specs.Natural.{natural}
use Rattle.con_units.specs.declared.place.Coord.{Coord}

-- The cells row by row, the number, and the cells at the moment when it was last raised; None where it never was.
pub record Picture : Type 0 where
  pub width : ℕ
  pub height : ℕ
  pub cells : List Glyph
  pub now : ℕ
  pub moment : Option (List Glyph)

-- the number becomes n; where it is raised, the moment is now
abbrev pub raised : Picture → ℕ → Picture
raised p n = if nat_lt p.now n then record p { now = n; moment = Some p.cells } else p

-- where the place stands in the list of cells
abbrev pub place : Picture → Coord → ℕ
place p at = natural at.y * p.width + natural at.x

-- the cells from one place up to another become one cell
unfoldable pub filled : List Glyph → ℕ → ℕ → Glyph → List Glyph
filled cells from upto fill = splice cells from upto (replicate (upto - from) fill)

-- all cells are lifted by n, with `fill` below
unfoldable pub lifted : List Glyph → ℕ → Glyph → List Glyph
lifted cells n fill = drop n cells ++ replicate (min n (length cells)) fill

-- all cells are lowered by n, with `fill` above
unfoldable pub lowered : List Glyph → ℕ → Glyph → List Glyph
lowered cells n fill = replicate (min n (length cells)) fill ++ take (length cells - n) cells

-- the cells from one place up to another are lifted by n
unfoldable pub part_lifted : List Glyph → ℕ → ℕ → ℕ → Glyph → List Glyph
part_lifted cells from upto n fill = splice cells from upto (lifted (slice_range cells from upto) n fill)

-- the cells from one place up to another are lowered by n
unfoldable pub part_lowered : List Glyph → ℕ → ℕ → ℕ → Glyph → List Glyph
part_lowered cells from upto n fill = splice cells from upto (lowered (slice_range cells from upto) n fill)

-- the cells of a grid of this width and height: its row y is row y + lost of cells of an older width, cut or filled on
-- the right, or `fill` where there is no such row
unfoldable pub resized_cells : List Glyph → ℕ → ℕ → ℕ → ℕ → Glyph → List Glyph
resized_cells cells width w h lost fill = map (λ k. if nat_lt (k % w) width then slice_index_or cells ((k / w + lost) * width + k % w) fill else fill) (range_with_len 0 (w * h))

-- a picture of another size with the same number, of which no row is known to be what it was
abbrev pub resized : Picture → ℕ → ℕ → ℕ → Glyph → Picture
resized p w h lost fill = record { width = w; height = h; cells = resized_cells p.cells p.width w h lost fill; now = p.now; moment = None }

-- The part of a view that a terminal of another size shows.
use Rattle.std.specs.Prelude.{ℕ, pos, ◌+◌, ◌-◌, Bool, List, ◌++◌, take, drop, flat_map, replicate, if◌then◌else◌}
use Rattle.std.specs.List.{range_with_len}
use Rattle.con_units.specs.Glyph.{Glyph, blank_cell}
use Rattle.con_units.specs.Natural.{natural}
use Rattle.con_units.specs.View.{row_of}
use Rattle.con_units.specs.declared.place.Size.{Size}
use Rattle.con_units.specs.declared.view.View.{View}

-- where n columns or rows begin: at 0, or, where the cursor shows and stands behind them, so that it stands in the last of them
abbrev pub corner : Bool → ℕ → ℕ → ℕ
corner shows at n = if shows then at - (n - 1) else 0

-- row y of a view, from the column `left` on, in n columns, with spaces behind it; a row past the view has no cells, and so spaces
abbrev pub part_row : View → ℕ → ℕ → ℕ → List Glyph
part_row v left n y = take n (drop left (row_of v.size.w v.rows y) ++ replicate n blank_cell)

-- the part of a view at this size: its cells from the corner on, with its cursor; (0, 0) where it does not show
abbrev pub part : View → Size → View
part v size = let x = natural v.cursor.x in let y = natural v.cursor.y in let left = corner v.visible x size.w in let top = corner v.visible y size.h in record {
  size = size;
  rows = flat_map (λ n. part_row v left size.w (top + n)) (range_with_len 0 size.h);
  cursor = if v.visible then record { x = pos (x - left); y = pos (y - top) } else record { x = pos 0; y = pos 0 };
  visible = v.visible;
}

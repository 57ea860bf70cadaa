-- Runs of cells: row by row from a place up to the end of the grid.
use Rattle.std.specs.Prelude.{ℕ, pos, ◌+◌, ◌*◌, ◌-◌, List, length, map, replicate, take, drop, min, slice_index_or}
use Rattle.std.specs.Prelude.{nat_le, nat_lt, int_le, ◌&&◌, if◌then◌else◌}
use Rattle.con_units.specs.Glyph.{Glyph, plain_cell}
use Rattle.con_units.specs.Stored.{stored_unit}
use Rattle.con_units.specs.Attr.{plain}
use Rattle.con_units.specs.Natural.{natural}
use Rattle.con_units.specs.declared.place.Coord.{Coord}
use Rattle.con_grid.specs.Picture.{Picture, place}
use Rattle.con_rects.specs.Rules.{cell_at, redrawn}

-- how many of n cells there are from a place up to the end of the grid, row by row: none from a place outside
abbrev pub run_count : Picture → Coord → ℕ → ℕ
run_count p at n = min n (if int_le (pos 0) at.x && int_le (pos 0) at.y && nat_lt (natural at.x) p.width && nat_lt (natural at.y) p.height
    then p.width * p.height - place p at else 0)

-- the grid after cells from a place on took one value each, in their order, as far as there are cells
abbrev pub run_written : Picture → Coord → (Glyph → ℕ → Glyph) → List ℕ → Picture
run_written p at with_value values = redrawn p (λ x y. let from = place p at in let k = y * p.width + x in
    if nat_le from k && nat_lt k (from + run_count p at (length values)) then with_value (cell_at p x y) (slice_index_or values (k - from) 0) else cell_at p x y)

-- the grid after units were written over a run, and after words were, which have plain shades
unfoldable pub units_written : Picture → Coord → List ℕ → Picture
units_written p at units = run_written p at (λ g unit. record g { unit = stored_unit unit }) units

unfoldable pub words_written : Picture → Coord → List ℕ → Picture
words_written p at words = run_written p at (λ g word. record g { attr = plain word }) words

-- the first n cells of a run, or all where it has fewer, as they are read
abbrev pub run_cells : Picture → Coord → ℕ → List Glyph
run_cells p at n = take (run_count p at n) (drop (place p at) (map plain_cell p.cells))

-- ---- fills

-- the grid after n cells of a run, or all where it has fewer, took one unit, or one word with plain shades
abbrev pub unit_filled : Picture → Coord → ℕ → ℕ → Picture
unit_filled p at n unit = units_written p at (replicate n unit)

abbrev pub word_filled : Picture → Coord → ℕ → ℕ → Picture
word_filled p at n word = words_written p at (replicate n word)

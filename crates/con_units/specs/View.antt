-- Rows of cells, and the views of which they are parts.
use Rattle.std.specs.Prelude.{ℕ, ◌+◌, ◌*◌, List, take, drop}
use Rattle.con_units.specs.Glyph.{Glyph}

-- row y of cells of a width
abbrev pub row_of : ℕ → List Glyph → ℕ → List Glyph
row_of width cells y = take width (drop (y * width) cells)

-- n cells of row y of cells of a width, from the column `left` on
abbrev pub row_part : ℕ → List Glyph → ℕ → ℕ → ℕ → List Glyph
row_part width cells left n y = take n (drop (y * width + left) cells)

-- The numbers of control sequences that move the cursor or the rows.
use Rattle.std.specs.Prelude.{ℕ, not, ◌||◌, ◌==◌, List, ◌++◌}
use Rattle.con_strokes.specs.Bytes.{part}

-- a row and a column; a column 1 is left out, and so is a row 1 in front of none
abbrev pub place_numbers : ℕ → ℕ → List ℕ
place_numbers row column = part (not (column == 1) || not (row == 1)) row ++ part (not (column == 1)) column

-- a count; a 1 is left out
abbrev pub count_numbers : ℕ → List ℕ
count_numbers n = part (not (n == 1)) n

-- The words of the code and of laws about Limits, which a reader need not believe.
use Rattle.std.specs.Prelude.{ℕ, ◌<◌, ◌≤◌}
use Rattle.con_units.specs.Limits.{most_columns, most_window_rows, most_buffer_rows}

-- a window has 1 to 512 columns and 1 to 256 rows
pub record IsWindow (w h : ℕ) : Type 0 where
  pub some_columns : 0 < w
  pub some_rows : 0 < h
  pub few_columns : w ≤ most_columns
  pub few_rows : h ≤ most_window_rows

-- a buffer has 1 to 512 columns and 1 to 2,048 rows
pub record IsBuffer (w h : ℕ) : Type 0 where
  pub some_columns : 0 < w
  pub some_rows : 0 < h
  pub few_columns : w ≤ most_columns
  pub few_rows : h ≤ most_buffer_rows

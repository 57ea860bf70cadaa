-- The words of the code and of laws about Words, which a reader need not believe.
use Rattle.std.specs.Prelude.{◌<◌, ◌≤◌}
use Rattle.con_units.specs.Limits.{most_columns, most_window_rows}
use Rattle.con_units.specs.declared.place.Size.{Size}

-- a window's size
abbrev pub IsWindow : Size → Type 0
IsWindow size = (0 < size.w) × (0 < size.h) × (size.w ≤ most_columns) × (size.h ≤ most_window_rows)

-- The greatest sizes and numbers that the console takes.
use Rattle.std.specs.Prelude.{ℕ}

-- the columns of a window or a buffer
abbrev pub most_columns : ℕ
most_columns = 512

-- the rows of a window
abbrev pub most_window_rows : ℕ
most_window_rows = 256

-- the rows of a buffer
abbrev pub most_buffer_rows : ℕ
most_buffer_rows = 2048

-- the cells, units or attribute words that one call reads or writes
abbrev pub most_items : ℕ
most_items = 16384

-- the input records that one call reads or writes
abbrev pub most_records : ℕ
most_records = 1024

-- the units of an edited line
abbrev pub line_units : ℕ
line_units = 1024

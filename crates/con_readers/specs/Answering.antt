-- Which records end a line.
use Rattle.std.specs.Prelude.{ℕ, ◌||◌, Bool}
use Rattle.con_records.specs.declared.record.Record.{Record}
use Rattle.con_cooked.specs.Keys.{key_of}
use Rattle.con_cooked.specs.Mask.{is_masked}
use Rattle.con_cooked.specs.Cooked.{is_return}

-- a record that ends a line: a masked control, or the key-down of return
abbrev pub is_line_end : ℕ → Record → Bool
is_line_end mask r = is_masked mask r || is_return (key_of r)

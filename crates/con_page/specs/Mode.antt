-- Output modes as numbers.
use Rattle.std.specs.Prelude.{ℕ, ◌+◌, ◌/◌, ◌%◌, ◌==◌, if◌then◌else◌}
use Rattle.con_page.specs.declared.mode.Mode.{Mode}

abbrev pub mode_of : ℕ → Mode
mode_of n = record { processed = n % 2 == 1; wrap = n / 2 % 2 == 1; sequences = n / 4 % 2 == 1; keeps_column = n / 8 % 2 == 1 }

abbrev pub number_of : Mode → ℕ
number_of m = (if m.processed then 1 else 0) + (if m.wrap then 2 else 0) + (if m.sequences then 4 else 0) + (if m.keeps_column then 8 else 0)

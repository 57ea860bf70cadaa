-- Printable ASCII.
use Rattle.std.specs.Prelude.{ℕ, Bool}
use Rattle.std.specs.Int.{is_in_range}

-- SPACE to ~
abbrev pub is_plain : ℕ → Bool
is_plain = is_in_range 0x20 0x7E

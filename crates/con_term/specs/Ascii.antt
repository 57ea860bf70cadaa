-- ASCII.
use Rattle.std.specs.Prelude.{ℕ, Bool, nat_lt}

abbrev pub is_ascii_byte : ℕ → Bool
is_ascii_byte b = nat_lt b 0x80

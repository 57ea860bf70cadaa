-- Texts and bytes in hexadecimal digits, the high one first.
use Rattle.std.specs.Prelude.{ℕ, ◌/◌, ◌%◌, List, [], ◌∷◌}
use Rattle.std.specs.Char.{digit_char}

-- two lower-case digits a byte
abbrev pub hex_bytes : List ℕ → List ℕ
hex_bytes [] = []
hex_bytes (b ∷ bs) = digit_char (b / 16) ∷ digit_char (b % 16) ∷ hex_bytes bs

-- four lower-case digits a unit
abbrev pub hex_units : List ℕ → List ℕ
hex_units [] = []
hex_units (u ∷ us) = digit_char (u / 4096) ∷ digit_char (u / 256 % 16) ∷ digit_char (u / 16 % 16) ∷ digit_char (u % 16) ∷ hex_units us

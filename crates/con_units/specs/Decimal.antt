-- Numbers in a text.
use Rattle.std.specs.Prelude.{ℕ, ◌+◌, ◌/◌, ◌%◌, nat_lt, List, [], ◌∷◌, ◌++◌, if◌then◌else◌}

-- the decimal digits of a number below 1,000
unfoldable pub decimal : ℕ → List ℕ
decimal n = (if nat_lt n 100 then [] else (0x30 + n / 100) ∷ []) ++ (if nat_lt n 10 then [] else (0x30 + n / 10 % 10) ∷ []) ++ (0x30 + n % 10) ∷ []

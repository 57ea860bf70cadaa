-- The UTF-8 of a unit (RFC 3629, section 3).
use Rattle.std.specs.Prelude.{ℕ, ◌+◌, ◌/◌, ◌%◌, nat_lt, List, [], ◌∷◌, if◌then◌else◌}

-- one, two or three bytes, with six bits of the unit in each byte after the first
unfoldable pub unit_bytes : ℕ → List ℕ
unit_bytes u =
    if nat_lt u 0x80 then u ∷ []
    else if nat_lt u 0x800 then (0xC0 + u / 64) ∷ (0x80 + u % 64) ∷ []
    else (0xE0 + u / 4096) ∷ (0x80 + u / 64 % 64) ∷ (0x80 + u % 64) ∷ []

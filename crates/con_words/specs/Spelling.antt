-- The numbers that words spell, as the code reads them: digit by digit.
use Rattle.std.specs.Prelude.{ℕ, ◌+◌, ◌-◌, ◌*◌, Bool, ◌&&◌, ◌==◌, nat_le, List, [], ◌∷◌, Option, Some, None, option_and_then, if◌then◌else◌}

-- '1' to '9'
abbrev pub is_first : ℕ → Bool
is_first byte = nat_le 0x31 byte && nat_le byte 0x39

-- '0' to '9'
abbrev pub is_digit : ℕ → Bool
is_digit byte = nat_le 0x30 byte && nat_le byte 0x39

abbrev pub digit_of : ℕ → ℕ
digit_of byte = byte - 0x30

-- the number that one to three decimal digits spell, of which the first is not 0
abbrev pub number_of : List ℕ → Option ℕ
number_of (a ∷ []) = if is_first a then Some (digit_of a) else None
number_of (a ∷ b ∷ []) = if is_first a && is_digit b then Some (digit_of a * 10 + digit_of b) else None
number_of (a ∷ b ∷ c ∷ []) = if is_first a && is_digit b && is_digit c then Some (digit_of a * 100 + digit_of b * 10 + digit_of c) else None
number_of _ = None

-- the number of 1 to `most` that the digits spell
abbrev pub side_of : List ℕ → ℕ → Option ℕ
side_of digits most = option_and_then (λ n. if nat_le n most then Some n else None) (number_of digits)

-- 'x'
abbrev pub is_x : ℕ → Bool
is_x byte = byte == 0x78

-- a number with one decimal digit more, of at most 4,294,967,295
abbrev pub with_digit : ℕ → ℕ → Option ℕ
with_digit n byte = if is_digit byte && nat_le (n * 10 + digit_of byte) 4294967295 then Some (n * 10 + digit_of byte) else None

-- the number that decimal digits spell behind one that was begun
abbrev pub spelled_after : ℕ → List ℕ → Option ℕ
spelled_after n [] = Some n
spelled_after n (byte ∷ bytes) = option_and_then (λ more. spelled_after more bytes) (with_digit n byte)

abbrev pub zero_alone : List ℕ → Option ℕ
zero_alone [] = Some 0
zero_alone (byte ∷ bytes) = None

-- the number of at most 4,294,967,295 that a word spells: '0', or decimal digits of which the first is not 0
abbrev pub seed_of : List ℕ → Option ℕ
seed_of [] = None
seed_of (byte ∷ bytes) = if byte == 0x30 then zero_alone bytes else spelled_after 0 (byte ∷ bytes)

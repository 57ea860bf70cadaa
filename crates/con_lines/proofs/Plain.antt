-- What stands in a text as it is.
use Rattle.std.proofs.Common.{◌≡◌, ℕ, ◌+◌, ◌/◌, ◌%◌, ◌^◌, ◌<◌, ◌≤◌, List, [], ◌∷◌, ◌++◌, refl, ◌∙◌, arith}
use Rattle.std.specs.Prelude.{codes, decimal, nat_lt}
use Rattle.std.specs.Char.{digit_char}
use Rattle.std.proofs.lemmas.Bool.Decides.{nat_tests}
use Rattle.std.proofs.lemmas.Bool.{cond_both}
use Rattle.std.proofs.lemmas.Fmt.{decimal_by_steps}
use Rattle.std.proofs.lemmas.List.Concat.{flat_map-append}
use Rattle.json.specs.Print.{escape, escape_byte}
use Rattle.json.proofs.Printed.Strings.{escape_byte_plain}
use Rattle.con_lines.specs.Hex.{hex_bytes, hex_units}

-- the digits of numbers, and the letters behind them
plain : (x : ℕ) → 48 ≤ x → x < 92 → escape_byte x ≡ x ∷ []
plain x p q = escape_byte_plain x (λ e. omega (arith, e)) (λ e. omega (arith, e)) (omega arith)

letter : (x : ℕ) → 93 ≤ x → escape_byte x ≡ x ∷ []
letter x p = escape_byte_plain x (λ e. omega (arith, e)) (λ e. omega (arith, e)) (omega arith)

digit_plain : (d : ℕ) → escape_byte (digit_char d) ≡ digit_char d ∷ []
digit_plain d = cond_both (nat_lt d 10) (48 + d) (87 + d) (λ c. escape_byte c ≡ c ∷ []) (λ h. plain (48 + d) (omega arith) (grind (arith, nat_tests))) (λ h. letter (87 + d) (grind (arith, nat_tests)))

pub bytes_plain : (bytes : List ℕ) → escape (hex_bytes bytes) ≡ hex_bytes bytes
bytes_plain [] = refl
bytes_plain (b ∷ bytes) = rw (digit_plain (b / 16), digit_plain (b % 16), bytes_plain bytes) refl

pub units_plain : (units : List ℕ) → escape (hex_units units) ≡ hex_units units
units_plain [] = refl
units_plain (u ∷ units) = rw (digit_plain (u / 4096), digit_plain (u / 256 % 16), digit_plain (u / 16 % 16), digit_plain (u % 16), units_plain units) refl

pub number_plain : (n : ℕ) → n < 2 ^ 64 → escape (decimal n) ≡ decimal n
number_plain n small = decimal_by_steps (λ n ds. escape ds ≡ ds)
    (λ n h. rw (plain (48 + n) (omega arith) (omega arith)) refl)
    (λ n ds h p. flat_map-append escape_byte ds ((48 + n % 10) ∷ []) ∙ rw (p, plain (48 + n % 10) (omega arith) (omega arith)) refl) n small

-- a letter in front
pub client_plain : (n : ℕ) → n < 2 ^ 64 → escape (codes "c" ++ decimal n) ≡ codes "c" ++ decimal n
unfolding escape_byte
client_plain n small = rw (number_plain n small) refl

-- The numbers that the code reads digit by digit are those that the words spell.
use Rattle.std.proofs.Common.{◌≡◌, ◌∙◌, ℕ, ◌+◌, ◌-◌, ◌*◌, ◌≤◌, ◌<◌, Bool, true, false, cond, ◌&&◌, ◌||◌, ◌==◌, List, [], ◌∷◌, Option, Some, None, refl, arith}
use Rattle.std.specs.Prelude.{map, nat_le, option_and_then}
use Rattle.std.specs.Char.{is_ascii_digit}
use Rattle.std.specs.Int.Digits.{number_from_digits_after}
use Rattle.std.specs.List.{list_all}
use Rattle.std.proofs.lemmas.Bool.Decides.{nat_tests}
use Rattle.con_words.specs.Words.{number_in}
use Rattle.con_words.specs.Spelling.{is_first, is_digit, digit_of, side_of, spelled_after, zero_alone, seed_of}

-- what digits spell behind a number that was begun
abbrev value : ℕ → List ℕ → ℕ
value n ds = number_from_digits_after 10 n (map (λ d. d - 0x30) ds)

ten_more : (n d v : ℕ) → n * 10 + d ≤ v → n ≤ v
ten_more n d v h = omega arith

grows : (n : ℕ) (ds : List ℕ) → n ≤ value n ds
grows n [] = omega arith
grows n (d ∷ ds) = ten_more n (d - 0x30) (value (n * 10 + (d - 0x30)) ds) (grows (n * 10 + (d - 0x30)) ds)

through : (a b c : ℕ) → a ≤ b → b ≤ c → a ≤ c
through a b c h k = omega arith

and_false : (a : Bool) → (a && false) ≡ false
and_false true = refl
and_false false = refl

none_by : (a : Bool) (o : Option ℕ) → None ≡ cond (a && false) o None
none_by true o = refl
none_by false o = refl

at_most : (n m : ℕ) → nat_le n m ≡ true → n ≤ m
at_most n m h = grind (arith, nat_tests)

is_most : (n m : ℕ) → n ≤ m → nat_le n m ≡ true
is_most n m h = grind (arith, nat_tests)

too_large : (n k m : ℕ) → nat_le n m ≡ false → n ≤ k → nat_le k m ≡ false
too_large n k m h more = grind (arith, nat_tests)

-- ---- the number of a session

spelled_by : (d few : Bool) (n m : ℕ) (bytes : List ℕ) → (few ≡ true → spelled_after m bytes ≡ cond (list_all is_ascii_digit bytes && nat_le (value m bytes) 4294967295) (Some (value m bytes)) None)
    → (few ≡ false → nat_le (value m bytes) 4294967295 ≡ false)
    → option_and_then (λ more. spelled_after more bytes) (cond (d && few) (Some m) None) ≡ cond ((d && list_all is_ascii_digit bytes) && nat_le (value m bytes) 4294967295) (Some (value m bytes)) None
spelled_by false few n m bytes h k = refl
spelled_by true true n m bytes h k = h refl
spelled_by true false n m bytes h k = rw (k refl) (none_by (list_all is_ascii_digit bytes) (Some (value m bytes)))

spelled_is : (n : ℕ) (bytes : List ℕ) → n ≤ 4294967295 → spelled_after n bytes ≡ cond (list_all is_ascii_digit bytes && nat_le (value n bytes) 4294967295) (Some (value n bytes)) None
spelled_is n [] few = rw (is_most n 4294967295 few) refl
spelled_is n (b ∷ bytes) few = spelled_by (is_digit b) (nat_le (n * 10 + digit_of b) 4294967295) n (n * 10 + digit_of b) bytes
    (λ h. spelled_is (n * 10 + digit_of b) bytes (at_most (n * 10 + digit_of b) 4294967295 h))
    (λ h. too_large (n * 10 + digit_of b) (value (n * 10 + digit_of b) bytes) 4294967295 h (grows (n * 10 + digit_of b) bytes))

-- a first digit is one that is not 0
first_by : (z d f : Bool) → (b : ℕ) → (b == 0x30) ≡ z → is_digit b ≡ d → is_first b ≡ f → z ≡ false → f ≡ d
first_by z true true b p q r s = refl
first_by z false false b p q r s = refl
first_by z true false b p q r s = absurd (no_other b p q r s)
  where
    no_other : (b : ℕ) → (b == 0x30) ≡ z → is_digit b ≡ true → is_first b ≡ false → z ≡ false → ⊥
    no_other b p q r s = let other : (b == 0x30) ≡ false = p ∙ s in grind (arith, nat_tests)
first_by z false true b p q r s = absurd (no_other b q r)
  where
    no_other : (b : ℕ) → is_digit b ≡ false → is_first b ≡ true → ⊥
    no_other b q r = grind (arith, nat_tests)

seed_by : (d all few : Bool) (n : ℕ) → cond ((d && all) && few) (Some n) None ≡ cond (((d && all) && d) && (true && few)) (Some n) None
seed_by true true few n = refl
seed_by true false few n = refl
seed_by false all few n = refl

zero_is : (bytes : List ℕ) → zero_alone bytes ≡ number_in 0 4294967295 (0x30 ∷ bytes)
zero_is [] = refl
zero_is (b ∷ bytes) = rw (and_false (list_all is_ascii_digit (b ∷ bytes))) refl

pub seed_is : (word : List ℕ) → seed_of word ≡ number_in 0 4294967295 word
seed_is [] = refl
seed_is (b ∷ bytes) = by_zero (b == 0x30) refl
  where
    by_zero : (z : Bool) → (b == 0x30) ≡ z → cond z (zero_alone bytes) (spelled_after 0 (b ∷ bytes)) ≡ number_in 0 4294967295 (b ∷ bytes)
    by_zero true e = let same : b ≡ 0x30 = grind (arith, nat_tests) in rw same (zero_is bytes)
    by_zero false e = rw (e, first_by false (is_digit b) (is_first b) b e refl refl refl, is_most 0 (value 0 (b ∷ bytes)) (omega arith))
        (spelled_is 0 (b ∷ bytes) (omega arith) ∙ seed_by (is_digit b) (list_all is_ascii_digit bytes) (nat_le (value 0 (b ∷ bytes)) 4294967295) (value 0 (b ∷ bytes)))

-- ---- a side of a size

first_digit : (b : ℕ) → is_first b ≡ true → is_digit b ≡ true
first_digit b h = grind (arith, nat_tests)

first_some : (b : ℕ) → is_first b ≡ true → 1 ≤ 0 * 10 + digit_of b
first_some b h = let low : 0x31 ≤ b = grind (arith, nat_tests) in omega arith

begun : (b : ℕ) (ds : List ℕ) → is_first b ≡ true → nat_le 1 (value 0 (b ∷ ds)) ≡ true
begun b ds h = is_most 1 (value 0 (b ∷ ds)) (through 1 (0 * 10 + digit_of b) (value 0 (b ∷ ds)) (first_some b h) (grows (0 * 10 + digit_of b) ds))

one_by : (f d z few : Bool) (n m most : ℕ) → n ≡ m → (f ≡ true → d ≡ true) → (f ≡ true → few ≡ true) → (f ≡ false → z ≡ true → few ≡ false)
    → option_and_then (λ n. cond (nat_le n most) (Some n) None) (cond f (Some n) None) ≡ cond (((d && true) && ((z && true) || f)) && (few && nat_le m most)) (Some m) None
one_by true d true few n m most e p q r = rw (p refl, q refl, e) refl
one_by true d false few n m most e p q r = rw (p refl, q refl, e) refl
one_by false true true few n m most e p q r = rw (r refl refl) refl
one_by false false true few n m most e p q r = refl
one_by false true false few n m most e p q r = refl
one_by false false false few n m most e p q r = refl

-- two digits or more, of which the others are digits where `rest` says so
more_by : (f d z rest few : Bool) (n m most : ℕ) → n ≡ m → (f ≡ true → d ≡ true) → (f ≡ true → few ≡ true)
    → option_and_then (λ n. cond (nat_le n most) (Some n) None) (cond (f && rest) (Some n) None) ≡ cond (((d && rest) && ((z && false) || f)) && (few && nat_le m most)) (Some m) None
more_by true d true true few n m most e p q = rw (p refl, q refl, e) refl
more_by true d false true few n m most e p q = rw (p refl, q refl, e) refl
more_by true d z false few n m most e p q = rw (p refl) refl
more_by false d true rest few n m most e p q = rw (and_false (d && rest)) refl
more_by false d false rest few n m most e p q = rw (and_false (d && rest)) refl

zero_only : (b : ℕ) → (b == 0x30) ≡ true → nat_le 1 (0 * 10 + digit_of b) ≡ false
zero_only b h = let same : b ≡ 0x30 = grind (arith, nat_tests) in rw same refl

hundreds : (a b c : ℕ) → a * 100 + b * 10 + c ≡ ((0 * 10 + a) * 10 + b) * 10 + c
hundreds a b c = omega arith

-- four digits or more, of which the first is not 0, spell 1000 at least
long_by : (f d z rest few large : Bool) (n : ℕ) → (f ≡ true → large ≡ false) → None ≡ cond (((d && rest) && ((z && false) || f)) && (few && large)) (Some n) None
long_by true d z rest few large n h = rw (h refl, and_false few) (none_by ((d && rest) && ((z && false) || true)) (Some n))
long_by false d true rest few large n h = rw (and_false (d && rest)) refl
long_by false d false rest few large n h = rw (and_false (d && rest)) refl

above : (n m : ℕ) → m < n → nat_le n m ≡ false
above n m less = grind (arith, nat_tests)

thousand : (a b c d n most : ℕ) → 1 ≤ a → ((a * 10 + b) * 10 + c) * 10 + d ≤ n → most ≤ 999 → most < n
thousand a b c d n most some more small = omega arith

four : (a b c d : ℕ) (ds : List ℕ) (most : ℕ) → most ≤ 999 → is_first a ≡ true → nat_le (value 0 (a ∷ b ∷ c ∷ d ∷ ds)) most ≡ false
four a b c d ds most small h = above (value 0 (a ∷ b ∷ c ∷ d ∷ ds)) most
    (thousand (0 * 10 + digit_of a) (digit_of b) (digit_of c) (digit_of d) (value 0 (a ∷ b ∷ c ∷ d ∷ ds)) most (first_some a h)
    (grows ((((0 * 10 + digit_of a) * 10 + digit_of b) * 10 + digit_of c) * 10 + digit_of d) ds) small)

units : (a : ℕ) → a ≡ 0 * 10 + a
units a = omega arith

tens : (a b : ℕ) → a * 10 + b ≡ (0 * 10 + a) * 10 + b
tens a b = omega arith

pub side_is : (word : List ℕ) (most : ℕ) → most ≤ 999 → side_of word most ≡ number_in 1 most word
side_is [] most small = refl
side_is (a ∷ []) most small = one_by (is_first a) (is_digit a) (a == 0x30) (nat_le 1 (value 0 (a ∷ []))) (digit_of a) (value 0 (a ∷ [])) most (units (digit_of a)) (first_digit a) (begun a []) (λ f z. zero_only a z)
side_is (a ∷ b ∷ []) most small = rw (and_true (is_digit b)) (more_by (is_first a) (is_digit a) (a == 0x30) (is_digit b) (nat_le 1 (value 0 (a ∷ b ∷ []))) (digit_of a * 10 + digit_of b) (value 0 (a ∷ b ∷ [])) most (tens (digit_of a) (digit_of b)) (first_digit a) (begun a (b ∷ [])))
  where
    and_true : (x : Bool) → (x && true) ≡ x
    and_true true = refl
    and_true false = refl
side_is (a ∷ b ∷ c ∷ []) most small = rw (grouped (is_first a) (is_digit b) (is_digit c), and_true (is_digit c)) (more_by (is_first a) (is_digit a) (a == 0x30) (is_digit b && is_digit c) (nat_le 1 (value 0 (a ∷ b ∷ c ∷ []))) (digit_of a * 100 + digit_of b * 10 + digit_of c) (value 0 (a ∷ b ∷ c ∷ [])) most
    (hundreds (digit_of a) (digit_of b) (digit_of c)) (first_digit a) (begun a (b ∷ c ∷ [])))
  where
    and_true : (x : Bool) → (x && true) ≡ x
    and_true true = refl
    and_true false = refl

    grouped : (x y z : Bool) → ((x && y) && z) ≡ (x && (y && z))
    grouped true y z = refl
    grouped false y z = refl
side_is (a ∷ b ∷ c ∷ d ∷ ds) most small = long_by (is_first a) (is_digit a) (a == 0x30) (list_all is_ascii_digit (b ∷ c ∷ d ∷ ds)) (nat_le 1 (value 0 (a ∷ b ∷ c ∷ d ∷ ds))) (nat_le (value 0 (a ∷ b ∷ c ∷ d ∷ ds)) most) (value 0 (a ∷ b ∷ c ∷ d ∷ ds)) (four a b c d ds most small)

-- Digits in front, one after another.
use Rattle.std.proofs.Common.{◌≡◌, ◌+◌, ◌*◌, ◌≤◌, ◌<◌, ℕ, zero, suc, Bool, true, false, cond, List, [], ◌∷◌, refl, arith}
use Rattle.std.specs.List.{list_all}
use Rattle.con_mouse.specs.Reports.{digits, is_digit}

abbrev pub power : ℕ → ℕ
power zero = 1
power (suc k) = 10 * power k

-- what at most four digits spell
pub small_enough : (n k : ℕ) → n + 1 ≤ power k → k ≤ 4 → n ≤ 9999
small_enough n zero h le = omega arith
small_enough n (suc zero) h le = omega arith
small_enough n (suc (suc zero)) h le = omega arith
small_enough n (suc (suc (suc zero))) h le = omega arith
small_enough n (suc (suc (suc (suc zero)))) h le = omega arith
small_enough n (suc (suc (suc (suc (suc k))))) h le = absurd (omega arith)

pub all_digits : (bs : List ℕ) → list_all is_digit (digits bs) ≡ true
all_digits [] = refl
all_digits (b ∷ bs) = by_test (is_digit b) refl (all_digits bs)
  where
    by_test : (t : Bool) → is_digit b ≡ t → list_all is_digit (digits bs) ≡ true → list_all is_digit (cond t (b ∷ digits bs) []) ≡ true
    by_test true e rest = rw e rest
    by_test false e rest = refl

-- The checksums of a line's beginnings, block by block.
use Rattle.std.proofs.Common.{◌≡◌, ℕ, ◌+◌, ◌*◌, ◌<◌, ◌≤◌, Bool, true, false, nat_lt, List, [], ◌∷◌, ◌++◌, fold, get_or, set, length, take, drop, refl, sym, ap, ◌∙◌, arith, length-set}
use Rattle.std.proofs.lemmas.List.{take_more, take-take, drop-take, take-append-drop, get_or-set_same, get_or-set_other}
use Rattle.std.proofs.lemmas.List.Sums.{fold-append}
use Rattle.std.proofs.lemmas.Bool.Decides.{nat_tests}
use Rattle.con_history.specs.Sums.{next_sum, sum_of}

-- one more unit
pub fold_more : (s : ℕ) (units : List ℕ) (i after next : ℕ) → i < length units → after ≡ fold next_sum s (take i units) → next ≡ next_sum after (get_or units i 0) → next ≡ fold next_sum s (take (i + 1) units)
fold_more s units i after next lt h n =
    n ∙ ap (λ z. next_sum z (get_or units i 0)) h ∙ sym (ap (fold next_sum s) (take_more units i 0 lt) ∙ fold-append next_sum s (take i units) (get_or units i 0 ∷ []))

take_on : (a m : ℕ) (xs : List ℕ) → take a xs ++ take m (drop a xs) ≡ take (a + m) xs
take_on a m xs =
    ap (λ l. l ++ take m (drop a xs)) (sym (take-take a (a + m) xs (omega arith)))
    ∙ ap (λ l. take a (take (a + m) xs) ++ l) (sym (drop-take a m xs)) ∙ take-append-drop a (take (a + m) xs)

-- the checksums of the first blocks
pub record SumsUpTo (k : ℕ) (units : List ℕ) (sum : ℕ) (sums : List ℕ) : Type 0 where
  pub long : length sums ≡ 16
  pub now : sum ≡ sum_of (take (k * 64) units)
  pub each : (b : ℕ) → b < k → get_or sums b 0 ≡ sum_of (take ((b + 1) * 64) units)

pub sums_none : (units sums : List ℕ) → length sums ≡ 16 → SumsUpTo 0 units 0 sums
unfolding sum_of
sums_none units sums long = record { long = long; now = refl; each = λ b lt. absurd (omega arith) }

-- one more block
pub sums_more : (k m : ℕ) (units : List ℕ) (sum next : ℕ) (sums : List ℕ) → k < 16 → k * 64 + m ≡ (k + 1) * 64 → SumsUpTo k units sum sums → next ≡ fold next_sum sum (take m (drop (k * 64) units)) → SumsUpTo (k + 1) units next (set sums k next)
unfolding sum_of
sums_more k m units sum next sums fits to r n =
    record { long = length-set sums k next ∙ r.long; now = now; each = λ b lt. at b (nat_lt b k) refl lt }
  where
    now : next ≡ fold next_sum 0 (take ((k + 1) * 64) units)
    now = n ∙ ap (λ s. fold next_sum s (take m (drop (k * 64) units))) r.now ∙ sym (fold-append next_sum 0 (take (k * 64) units) (take m (drop (k * 64) units)))
        ∙ ap (fold next_sum 0) (take_on (k * 64) m units ∙ ap (λ z. take z units) to)

    at : (b : ℕ) (test : Bool) → nat_lt b k ≡ test → b < k + 1 → get_or (set sums k next) b 0 ≡ fold next_sum 0 (take ((b + 1) * 64) units)
    at b true t lt = let l : b < k = grind (arith, nat_tests) in get_or-set_other sums k b next 0 (λ q. absurd (omega (arith, q, l))) ∙ r.each b l
    at b false t lt = let le : k ≤ b = grind (arith, nat_tests) in let e : b ≡ k = omega arith in rw e (get_or-set_same sums k next 0 (omega (arith, r.long)) ∙ now)

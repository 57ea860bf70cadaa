-- The front of a text, unit by unit.
use Rattle.std.proofs.Common.{◌≡◌, ℕ, zero, suc, ◌+◌, ◌-◌, ◌<◌, ◌≤◌, Bool, true, false, cond, List, [], ◌∷◌, length, take, drop, min, get_or, refl, sym, ap, ◌∙◌, arith, length-drop}
use Rattle.std.proofs.Math.Seq.{drop-cons}
use Rattle.std.proofs.lemmas.List.{take_all}
use Rattle.con_machine.specs.Reads.{line_front}
use Rattle.con_machine.specs.Words.Reads.{ends_line}

one_more : (m u : ℕ) (us : List ℕ) → ends_line u us ≡ false → suc (line_front m us) ≡ line_front (suc m) (u ∷ us)
unfolding line_front
one_more m u us e = by_test (ends_line u us) e
  where
    by_test : (b : Bool) → b ≡ false → suc (line_front m us) ≡ cond b (min (suc m) 2) (suc (line_front m us))
    by_test true h = cc
    by_test false h = refl

one_ends : (m u : ℕ) (us : List ℕ) → ends_line u us ≡ true → min (suc m) 2 ≡ line_front (suc m) (u ∷ us)
unfolding line_front
one_ends m u us e = by_test (ends_line u us) e
  where
    by_test : (b : Bool) → b ≡ true → min (suc m) 2 ≡ cond b (min (suc m) 2) (suc (line_front m us))
    by_test true h = refl
    by_test false h = cc

at_place : (n k : ℕ) (us : List ℕ) (d : ℕ) → k < n → k < length us → line_front (suc (n - (k + 1))) (get_or us k d ∷ drop (k + 1) us) ≡ line_front (n - k) (drop k us)
at_place n k us d lt within =
    let number : suc (n - (k + 1)) ≡ n - k = omega arith in
    let next : suc k ≡ k + 1 = omega arith in
    ap (λ m. line_front m (get_or us k d ∷ drop (k + 1) us)) number ∙ sym (ap (line_front (n - k)) (drop-cons us k d within ∙ ap (λ j. get_or us k d ∷ drop j us) next))

rest_is : (k : ℕ) (us : List ℕ) → take (length us - (k + 1)) (drop (k + 1) us) ≡ drop (k + 1) us
rest_is k us = take_all (length us - (k + 1)) (drop (k + 1) us) (omega (arith, length-drop (k + 1) us))

-- behind a unit that ends no line
pub front_more : (n k : ℕ) (us : List ℕ) (d : ℕ) (b : Bool) → k < n → k < length us → b ≡ ends_line (get_or us k d) (take (length us - (k + 1)) (drop (k + 1) us)) → b ≡ false → suc (line_front (n - (k + 1)) (drop (k + 1) us)) ≡ line_front (n - k) (drop k us)
front_more n k us d b lt within is e =
    one_more (n - (k + 1)) (get_or us k d) (drop (k + 1) us) (ap (ends_line (get_or us k d)) (sym (rest_is k us)) ∙ sym is ∙ e) ∙ at_place n k us d lt within

pub front_ends : (n k : ℕ) (us : List ℕ) (d : ℕ) (b : Bool) → k < n → k < length us → b ≡ ends_line (get_or us k d) (take (length us - (k + 1)) (drop (k + 1) us)) → b ≡ true → min (n - k) 2 ≡ line_front (n - k) (drop k us)
front_ends n k us d b lt within is e =
    let number : n - k ≡ suc (n - (k + 1)) = omega arith in
    ap (λ m. min m 2) number ∙ one_ends (n - (k + 1)) (get_or us k d) (drop (k + 1) us) (ap (ends_line (get_or us k d)) (sym (rest_is k us)) ∙ sym is ∙ e) ∙ at_place n k us d lt within

-- at the end
none_front : (m : ℕ) → line_front m [] ≡ 0
unfolding line_front
none_front zero = refl
none_front (suc m) = refl

all_gone : (k : ℕ) (us : List ℕ) → length us ≤ k → drop k us ≡ []
all_gone zero [] le = refl
all_gone (suc k) [] le = refl
all_gone zero (u ∷ us) le = absurd (omega arith)
all_gone (suc k) (u ∷ us) le = all_gone k us (omega arith)

pub front_past : (n k : ℕ) (us : List ℕ) → length us ≤ k → line_front (n - k) (drop k us) ≡ 0
front_past n k us le = ap (line_front (n - k)) (all_gone k us le) ∙ none_front (n - k)

zero_front : (us : List ℕ) → line_front 0 us ≡ 0
unfolding line_front
zero_front us = refl

pub front_none : (n k : ℕ) (us : List ℕ) → n ≤ k → line_front (n - k) (drop k us) ≡ 0
front_none n k us le = let none : n - k ≡ 0 = omega arith in ap (λ m. line_front m (drop k us)) none ∙ zero_front (drop k us)

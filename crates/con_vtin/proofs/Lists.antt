-- Lists and tests.
use Rattle.std.proofs.Common.{◌≡◌, ◌≢◌, ℕ, zero, suc, ◌+◌, ◌<◌, Bool, true, false, ◌&&◌, ◌==◌, List, [], ◌∷◌, ◌++◌, length, take, replicate, refl, ap, ◌∙◌, arith, set, add-one, Some}
use Rattle.std.proofs.Math.Seq.{take-suc-set, take-append_seam}
use Rattle.std.specs.Prelude.{not}
use Rattle.std.proofs.lemmas.Bool.Decides.{nat_tests}
use Rattle.std.specs.List.{list_all}
use Rattle.con_vtin.specs.Table.{replacement}
use Rattle.con_vtin.specs.Holding.{kept_of}
use Rattle.con_vtin.specs.Keys.{skip_while, front_while, replacements}

pub both : (a b : Bool) → (a && b) ≡ true → (a ≡ true) × (b ≡ true)
both true b h = (refl, h)
both false b h = cc

pub both_true : (a b : Bool) → a ≡ true → b ≡ true → (a && b) ≡ true
both_true a b p q = rw (p, q) refl

pub and_false : (a : Bool) → (a && false) ≡ false
and_false true = refl
and_false false = refl

pub not_true : (a : Bool) → not a ≡ true → a ≡ false
not_true true h = cc
not_true false h = refl

pub skip_all : (p : ℕ → Bool) (xs ys : List ℕ) → list_all p xs ≡ true → skip_while p (xs ++ ys) ≡ skip_while p ys
skip_all p [] ys h = refl
skip_all p (x ∷ xs) ys h = let h' = both (p x) (list_all p xs) h in rw h'.0 (skip_all p xs ys h'.1)

pub front_all : (p : ℕ → Bool) (xs ys : List ℕ) → list_all p xs ≡ true → front_while p (xs ++ ys) ≡ xs ++ front_while p ys
front_all p [] ys h = refl
front_all p (x ∷ xs) ys h = let h' = both (p x) (list_all p xs) h in rw h'.0 (ap (λ zs. x ∷ zs) (front_all p xs ys h'.1))

pub append_none : {A : Type 0} (xs : List A) → xs ++ [] ≡ xs
append_none [] = refl
append_none (x ∷ xs) = ap (λ zs. x ∷ zs) (append_none xs)

pub append_some : (xs : List ℕ) (u : ℕ) → (xs ++ u ∷ []) ≢ []
append_some [] u = λ e. cc
append_some (x ∷ xs) u = λ e. cc

pub all-longer : (p : ℕ → Bool) (xs : List ℕ) (u : ℕ) → list_all p xs ≡ true → p u ≡ true → list_all p (xs ++ u ∷ []) ≡ true
all-longer p [] u h k = rw k refl
all-longer p (x ∷ xs) u h k = let h' = both (p x) (list_all p xs) h in rw h'.0 (all-longer p xs u h'.1 k)

pub replacements_are : (bytes : List ℕ) → replacements bytes ≡ replicate (length bytes) replacement
replacements_are [] = refl
replacements_are (b ∷ bs) = ap (λ ks. replacement ∷ ks) (replacements_are bs)

pub first_set : (xs : List ℕ) (v : ℕ) → 0 < length xs → take 1 (set xs 0 v) ≡ v ∷ []
first_set [] v h = absurd (omega arith)
first_set (x ∷ xs) v h = refl

pub longer_set : (xs : List ℕ) (n v : ℕ) → n < length xs → take (n + 1) (set xs n v) ≡ take n xs ++ v ∷ []
longer_set xs n v h = rw add-one (take-suc-set xs n v h)

-- bytes that are written over the front of others, and one more
pub kept_is : (held front rest : List ℕ) (byte : ℕ) → front ≡ held → length held < length (front ++ rest) → kept_of (length held + 1) (set (front ++ rest) (length held) byte) ≡ Some (held ++ byte ∷ [])
kept_is held front rest byte is fits =
    let room : length held < length (held ++ rest) = rw is at fits in
    rw (is, add-one (length held)) (ap (λ (xs : List ℕ). Some xs) (take-suc-set (held ++ rest) (length held) byte room ∙ ap (λ (xs : List ℕ). xs ++ byte ∷ []) (take-append_seam held rest)))

-- ---- each number below another

abbrev pub all_below : (ℕ → Bool) → ℕ → Bool
all_below p zero = true
all_below p (suc n) = p n && all_below p n

one_below : (p : ℕ → Bool) (n k : ℕ) → p n ≡ true → (k < n → p k ≡ true) → k < suc n → (c : Bool) → (k == n) ≡ c → p k ≡ true
one_below p n k here below less true e = let same : k ≡ n = grind (arith, nat_tests) in rw same here
one_below p n k here below less false e = let before : k < n = grind (arith, nat_tests) in below before

pub holds_below : (p : ℕ → Bool) (n : ℕ) → all_below p n ≡ true → (k : ℕ) → k < n → p k ≡ true
holds_below p zero h k less = absurd (omega arith)
holds_below p (suc n) h k less = let parts = both (p n) (all_below p n) h in one_below p n k parts.0 (holds_below p n parts.1 k) less (k == n) refl

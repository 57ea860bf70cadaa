-- The test whether a number stands in a list.
use Rattle.std.proofs.Common.{◌≡◌, ℕ, Bool, true, false, ◌||◌, eqb, List, [], ◌∷◌, sym, refl, ◌∙◌, ⊎_elim, eq-eqb}
use Rattle.con_book.specs.History.{In, is_among}

left_false : (a b : Bool) → (a || b) ≡ false → a ≡ false
left_false true b h = cc
left_false false b h = refl

right_false : (a b : Bool) → (a || b) ≡ false → b ≡ false
right_false true b h = cc
right_false false b h = h

clash : (b : Bool) → b ≡ true → b ≡ false → ⊥
clash b p q = let e : true ≡ false = sym p ∙ q in cc

pub not_among : (n : ℕ) (xs : List ℕ) → is_among n xs ≡ false → In n xs → ⊥
not_among n [] none h = h
not_among n (x ∷ xs) none h = ⊎_elim (λ here. clash (eqb n x) (eq-eqb n x here) (left_false (eqb n x) (is_among n xs) none)) (not_among n xs (right_false (eqb n x) (is_among n xs) none)) h

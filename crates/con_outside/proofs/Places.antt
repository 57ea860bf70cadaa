-- The place of a name, one name after another.
use Rattle.std.proofs.Common.{◌≡◌, ◌+◌, ◌≤◌, ◌<◌, ℕ, zero, suc, List, [], ◌∷◌, true, false, arith, refl, ap, ◌∙◌, sym, length, drop, get_or, add-one}
use Rattle.std.specs.Prelude.{map, nat_eq}
use Rattle.std.specs.Cmp.Lexicographic.{pointwise}
use Rattle.std.proofs.Math.Seq.{drop-cons}
use Rattle.con_outside.specs.Words.Named.{place_in}

drop_at : {A : Type 0} (xs : List A) (i : ℕ) (x : A) → i < length xs → x ≡ get_or xs i x → drop i xs ≡ x ∷ drop (i + 1) xs
drop_at {A} xs i x lt here = rw (add-one i) (drop-cons xs i x lt ∙ ap (λ (y : A). y ∷ drop (suc i) xs) (sym here))

pub place_here : {A : Type 0} (f : A → List ℕ) (xs : List A) (i : ℕ) (x : A) (name : List ℕ) → i < length xs → x ≡ get_or xs i x → pointwise nat_eq (f x) name ≡ true → place_in (map f (drop i xs)) name ≡ 0
place_here f xs i x name lt here same = rw (drop_at xs i x lt here, same) refl

pub place_on : {A : Type 0} (f : A → List ℕ) (xs : List A) (i : ℕ) (x : A) (name : List ℕ) → i < length xs → x ≡ get_or xs i x → pointwise nat_eq (f x) name ≡ false → place_in (map f (drop i xs)) name ≡ suc (place_in (map f (drop (i + 1) xs)) name)
place_on f xs i x name lt here other = rw (drop_at xs i x lt here, other) refl

drop_past : {A : Type 0} (xs : List A) (i : ℕ) → length xs ≤ i → drop i xs ≡ []
drop_past [] zero le = refl
drop_past [] (suc i) le = refl
drop_past (x ∷ xs) zero le = absurd (omega arith)
drop_past (x ∷ xs) (suc i) le = drop_past xs i (omega arith)

pub place_end : {A : Type 0} (f : A → List ℕ) (xs : List A) (i : ℕ) (name : List ℕ) → length xs ≤ i → place_in (map f (drop i xs)) name ≡ 0
place_end f xs i name le = rw (drop_past xs i le) refl

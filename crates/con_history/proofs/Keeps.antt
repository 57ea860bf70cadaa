use Rattle.std.proofs.Common.{◌≡◌, ℕ, ◌+◌, ◌-◌, ◌<◌, ◌≤◌, Bool, true, false, cond, List, [], ◌∷◌, ◌++◌, length, take, drop, get_or, Some, filter, All, subst, refl, sym, ap, inl, inr, add-zero, ◌∙◌, arith, append-nil, append_assoc}
use Rattle.std.proofs.lemmas.List.{drop_more, take_more, drop-append-le, drop-drop, length-append, length-drop, get_or-drop}
use Rattle.std.proofs.lemmas.Bool.{cases_Bool}
use Rattle.std.proofs.lemmas.List.Elements.{filter-append, All-drop}
use Rattle.std.proofs.lemmas.Option.{get_or_from_slice_get}
use Rattle.std.specs.List.{slice_get}
use Rattle.con_history.specs.Histories.{newest}

-- the last n of the last n of p and one more are the last n of all
pub newest-push : {X : Type 0} (n : ℕ) (p : List X) (x : X) → newest n (newest n p ++ x ∷ []) ≡ newest n (p ++ x ∷ [])
newest-push n p x =
    let m : ℕ = length p - n in
    let joined : drop m p ++ x ∷ [] ≡ drop m (p ++ x ∷ []) = sym (drop-append-le m p (x ∷ []) (omega arith)) in
    let long : length (p ++ x ∷ []) ≡ length p + 1 = length-append p (x ∷ []) in
    let count : m + (length (drop m (p ++ x ∷ [])) - n) ≡ length (p ++ x ∷ []) - n = omega (arith, length-drop m (p ++ x ∷ []), long) in
    ap (λ l. drop (length l - n) l) joined ∙ drop-drop (length (drop m (p ++ x ∷ [])) - n) m (p ++ x ∷ []) ∙ ap (λ k. drop k (p ++ x ∷ [])) count

pub newest-short : {X : Type 0} (n : ℕ) (p : List X) → length p ≤ n → newest n p ≡ p
newest-short n p h = let e : length p - n ≡ 0 = omega arith in ap (λ k. drop k p) e

some_injective : {X : Type 0} {x y : X} → Some x ≡ Some y → x ≡ y
some_injective h = cc

-- the first of what is left is the next item
first_is : {X : Type 0} (t : X → Bool) (xs items : List X) (i : ℕ) (x : X) → i < length xs → items ≡ drop i xs ++ filter t (take i xs) → Some x ≡ slice_get items 0
    → (items ≡ x ∷ (drop (i + 1) xs ++ filter t (take i xs))) × (take (i + 1) xs ≡ take i xs ++ x ∷ [])
first_is t xs items i x i_in is first =
    let g = get_or xs i x in
    let split : items ≡ g ∷ (drop (i + 1) xs ++ filter t (take i xs)) = is ∙ ap (λ l. l ++ filter t (take i xs)) (drop_more xs i x i_in) in
    let same : x ≡ g = some_injective (first ∙ ap (λ l. slice_get l 0) split) in
    (split ∙ ap (λ y. y ∷ (drop (i + 1) xs ++ filter t (take i xs))) (sym same), take_more xs i x i_in ∙ ap (λ y. take i xs ++ y ∷ []) (sym same))

filter-one : {X : Type 0} (t : X → Bool) (x : X) → filter t (x ∷ []) ≡ cond (t x) (x ∷ []) []
filter-one t x = refl

pub rotate_kept : {X : Type 0} (t : X → Bool) (xs items : List X) (i : ℕ) (x : X) → i < length xs → items ≡ drop i xs ++ filter t (take i xs) → Some x ≡ slice_get items 0 → t x ≡ true → drop 1 items ++ x ∷ [] ≡ drop (i + 1) xs ++ filter t (take (i + 1) xs)
rotate_kept t xs items i x i_in is first kept =
    let p = first_is t xs items i x i_in is first in
    ap (λ l. drop 1 l ++ x ∷ []) p.0 ∙ append_assoc (drop (i + 1) xs) (filter t (take i xs)) (x ∷ [])
    ∙ ap (λ l. drop (i + 1) xs ++ l) (sym (ap (filter t) p.1 ∙ filter-append t (take i xs) (x ∷ []) ∙ ap (λ b. filter t (take i xs) ++ cond b (x ∷ []) []) kept))

pub rotate_dropped : {X : Type 0} (t : X → Bool) (xs items : List X) (i : ℕ) (x : X) → i < length xs → items ≡ drop i xs ++ filter t (take i xs) → Some x ≡ slice_get items 0 → t x ≡ false → drop 1 items ≡ drop (i + 1) xs ++ filter t (take (i + 1) xs)
rotate_dropped t xs items i x i_in is first kept =
    let p = first_is t xs items i x i_in is first in
    ap (λ l. drop 1 l) p.0
    ∙ ap (λ l. drop (i + 1) xs ++ l) (sym (ap (filter t) p.1 ∙ filter-append t (take i xs) (x ∷ []) ∙ ap (λ b. filter t (take i xs) ++ cond b (x ∷ []) []) kept ∙ append-nil (filter t (take i xs))))

-- the same, by the first item
turned_from : {X : Type 0} (t : X → Bool) (xs items : List X) (i : ℕ) → i < length xs → items ≡ drop i xs ++ filter t (take i xs) → (now : List X) → now ≡ items → drop 1 now ++ filter t (take 1 now) ≡ drop (i + 1) xs ++ filter t (take (i + 1) xs)
turned_from t xs items i i_in is [] e = absurd (let long : length items ≡ length (drop i xs) + length (filter t (take i xs)) = ap length is ∙ length-append (drop i xs) (filter t (take i xs)) in omega (arith, ap length e, length-drop i xs, long))
turned_from t xs items i i_in is (x ∷ now) e =
    let first : Some x ≡ slice_get items 0 = ap (λ l. slice_get l 0) e in
    elim (cases_Bool (t x)) [
      | inl kept ↦ ap (λ b. now ++ cond b (x ∷ []) []) kept ∙ ap (λ l. drop 1 l ++ x ∷ []) e ∙ rotate_kept t xs items i x i_in is first kept
      | inr dropped ↦ ap (λ b. now ++ cond b (x ∷ []) []) dropped ∙ append-nil now ∙ ap (λ l. drop 1 l) e ∙ rotate_dropped t xs items i x i_in is first dropped
    ]

-- one more line was turned
pub turned_more : {X : Type 0} (t : X → Bool) (xs items : List X) (i : ℕ) → i < length xs → items ≡ drop i xs ++ filter t (take i xs) → drop 1 items ++ filter t (take 1 items) ≡ drop (i + 1) xs ++ filter t (take (i + 1) xs)
turned_more t xs items i i_in is = turned_from t xs items i i_in is items refl

-- one more of the newest
pub moved_more : {X : Type 0} (cap : ℕ) (xs from to : List X) (x : X) → 0 < length from → length from ≤ length xs → from ≡ drop (length xs - length from) xs → to ≡ newest cap (take (length xs - length from) xs) → Some x ≡ slice_get from 0
    → (drop 1 from ≡ drop (length xs - length (drop 1 from)) xs) × (newest cap (to ++ x ∷ []) ≡ newest cap (take (length xs - length (drop 1 from)) xs))
moved_more cap xs from to x some fits is kept first =
    let n : ℕ = length xs - length from in
    let next : length xs - length (drop 1 from) ≡ n + 1 = omega (arith, length-drop 1 from) in
    let n_in : n < length xs = omega arith in
    let read : get_or xs n x ≡ x = sym (get_or-drop n xs 0 x ∙ ap (λ k. get_or xs k x) (add-zero n)) ∙ sym (ap (λ l. get_or l 0 x) is) ∙ get_or_from_slice_get from 0 x x (sym first) in (
      ap (drop 1) is ∙ drop-drop 1 n xs ∙ ap (λ k. drop k xs) (sym next),
      ap (λ l. newest cap (l ++ x ∷ [])) kept ∙ newest-push cap (take n xs) x
          ∙ ap (newest cap) (ap (λ y. take n xs ++ y ∷ []) (sym read) ∙ sym (take_more xs n x n_in) ∙ ap (λ k. take k xs) (sym next)),
    )

-- what holds of each holds of the newest
pub All-newest : {X : Type 0} (P : X → Type 0) (n : ℕ) (xs : List X) → All P xs → All P (newest n xs)
All-newest P n xs h = All-drop P (length xs - n) xs h

-- a list of one
pub All-one : {X : Type 0} (P : X → Type 0) (x : X) → P x → All P (x ∷ [])
All-one P x h = λ k d within. let e : k ≡ 0 = omega arith in subst (λ (i : ℕ). P (get_or (x ∷ []) i d)) (sym e) h

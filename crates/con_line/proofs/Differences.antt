-- Where texts differ after each kind of change.
use Rattle.std.proofs.Common.{◌≡◌, ℕ, suc, ◌+◌, ◌-◌, ◌<◌, ◌≤◌, ◌==◌, nat_eq, Bool, true, false, cond, List, [], ◌∷◌, ◌++◌, length, take, drop, get_or, refl, sym, ap, ◌∙◌, inl, inr, arith, ℕ, insert, remove, slice_set}
use Rattle.std.specs.List.{prefix_len}
use Rattle.std.proofs.lemmas.List.{take-append-drop, length-take-le, length-drop, drop_more, set_split}
use Rattle.std.proofs.Math.Seq.{take-length}
use Rattle.std.proofs.Math.ListN.{drop_of_length-le}
use Rattle.std.proofs.lemmas.Bool.{eq-eqb, eqb-true, cases_Bool}
use Rattle.con_units.specs.Words.Units.{first_difference}
use Rattle.con_line.specs.Line.{on_while}
use Rattle.con_line.specs.Words.Line.{edit_between}
use Rattle.con_line.specs.declared.edit.Edit.{Edit}

-- a text differs from itself nowhere
pub first_difference-self : (xs : List ℕ) → first_difference xs xs ≡ length xs
first_difference-self [] = refl
first_difference-self (x ∷ xs) = rw (eq-eqb x x refl) (omega (arith, first_difference-self xs))

-- nor an empty one
pub first_difference-empty : (xs : List ℕ) → first_difference xs [] ≡ 0
first_difference-empty [] = refl
first_difference-empty (x ∷ xs) = refl

-- what both begin with counts
pub first_difference-append : (p xs ys : List ℕ) → first_difference (p ++ xs) (p ++ ys) ≡ length p + first_difference xs ys
first_difference-append [] xs ys = omega arith
first_difference-append (x ∷ p) xs ys = rw (eq-eqb x x refl) (omega (arith, first_difference-append p xs ys))

-- the same, where one is cut
pub first_difference-kept : (xs ys : List ℕ) (c : ℕ) → c ≤ length xs → first_difference xs (take c xs ++ ys) ≡ c + first_difference (drop c xs) ys
first_difference-kept xs ys c within =
    ap (λ (l : List ℕ). first_difference l (take c xs ++ ys)) (sym (take-append-drop c xs))
    ∙ first_difference-append (take c xs) (drop c xs) ys
    ∙ ap (λ n. n + first_difference (drop c xs) ys) (length-take-le c xs within)

pushed_step : (b : Bool) (y u : ℕ) (ys : List ℕ) → nat_eq y u ≡ b → first_difference ys (y ∷ ys) ≡ prefix_len (λ x. x == y) ys
    → cond (nat_eq y u) (1 + first_difference ys (y ∷ ys)) 0 ≡ cond (nat_eq y u) (1 + prefix_len (λ x. x == u) ys) 0
pushed_step true y u ys is before = rw (is) (ap (λ n. 1 + n) (before ∙ ap (λ v. prefix_len (λ x. x == v) ys) (eqb-true y u is)))
pushed_step false y u ys is before = rw is refl

-- a unit before a text
pub first_difference-pushed : (ys : List ℕ) (u : ℕ) → first_difference ys (u ∷ ys) ≡ prefix_len (λ x. x == u) ys
first_difference-pushed [] u = refl
first_difference-pushed (y ∷ ys) u = pushed_step (nat_eq y u) y u ys refl (first_difference-pushed ys y)

-- a unit is put in
pub first_difference-insert : (xs : List ℕ) (i u : ℕ) → i ≤ length xs → first_difference xs (insert xs i u) ≡ on_while (λ x. x == u) xs i
first_difference-insert xs i u within = first_difference-kept xs (u ∷ drop i xs) i within ∙ ap (λ n. i + n) (first_difference-pushed (drop i xs) u)

eqb_turned : (x y : ℕ) → nat_eq x y ≡ nat_eq y x
eqb_turned x y = elim (cases_Bool (nat_eq y x)) [
  | inl is ↦ eq-eqb x y (sym (eqb-true y x is)) ∙ sym is
  | inr is ↦ elim (cases_Bool (nat_eq x y)) [ inl same ↦ same ∙ sym (eq-eqb y x (sym (eqb-true x y same))) | inr other ↦ other ∙ sym is ]
]

pulled_step : (b : Bool) (x y : ℕ) (ys : List ℕ) → nat_eq y x ≡ b → first_difference (y ∷ ys) ys ≡ prefix_len (λ z. z == y) ys
    → cond (nat_eq x y) (1 + first_difference (y ∷ ys) ys) 0 ≡ cond (nat_eq y x) (1 + prefix_len (λ z. z == x) ys) 0
pulled_step true x y ys is before = rw (eqb_turned x y, is) (ap (λ n. 1 + n) (before ∙ ap (λ v. prefix_len (λ z. z == v) ys) (eqb-true y x is)))
pulled_step false x y ys is before = rw (eqb_turned x y, is) refl

-- a text less its first unit
pub first_difference-pulled : (x : ℕ) (ys : List ℕ) → first_difference (x ∷ ys) ys ≡ prefix_len (λ z. z == x) ys
first_difference-pulled x [] = refl
first_difference-pulled x (y ∷ ys) = pulled_step (nat_eq y x) x y ys refl (first_difference-pulled y ys)

-- a unit goes
pub first_difference-remove : (xs : List ℕ) (i : ℕ) → i < length xs → first_difference xs (remove xs i) + 1 ≡ on_while (λ z. z == get_or xs i 0) xs (i + 1)
first_difference-remove xs i within =
    let at : drop i xs ≡ get_or xs i 0 ∷ drop (i + 1) xs = drop_more xs i 0 within in
    let cut : first_difference xs (remove xs i) ≡ i + first_difference (drop i xs) (drop (suc i) xs) = first_difference-kept xs (drop (suc i) xs) i (omega arith) in
    let next : drop (suc i) xs ≡ drop (i + 1) xs = (let e : suc i ≡ i + 1 = omega arith in ap (λ k. drop k xs) e) in
    let rest : first_difference (drop i xs) (drop (suc i) xs) ≡ prefix_len (λ z. z == get_or xs i 0) (drop (i + 1) xs) =
    ap (λ (l : List ℕ). first_difference (drop i xs) l) next ∙ ap (λ (l : List ℕ). first_difference l (drop (i + 1) xs)) at ∙ first_difference-pulled (get_or xs i 0) (drop (i + 1) xs) in
    omega (arith, cut, rest)

-- a unit is written over
pub first_difference-set : (xs : List ℕ) (i u : ℕ) → i < length xs → first_difference xs (slice_set xs i u) ≡ i + cond (nat_eq (get_or xs i 0) u) (1 + length (drop (i + 1) xs)) 0
first_difference-set xs i u within =
    let at : drop i xs ≡ get_or xs i 0 ∷ drop (i + 1) xs = drop_more xs i 0 within in
    let next : drop (suc i) xs ≡ drop (i + 1) xs = (let e : suc i ≡ i + 1 = omega arith in ap (λ k. drop k xs) e) in
    ap (λ (l : List ℕ). first_difference xs l) (set_split xs i u within)
    ∙ first_difference-kept xs (u ∷ drop (suc i) xs) i (omega arith)
    ∙ ap (λ n. i + n) (ap (λ (l : List ℕ). first_difference (drop i xs) (u ∷ l)) next ∙ ap (λ (l : List ℕ). first_difference l (u ∷ drop (i + 1) xs)) at
    ∙ ap (λ n. cond (nat_eq (get_or xs i 0) u) (1 + n) 0) (first_difference-self (drop (i + 1) xs)))

pub first_difference-set_same : (xs : List ℕ) (i u : ℕ) → i < length xs → nat_eq (get_or xs i 0) u ≡ true → first_difference xs (slice_set xs i u) ≡ length xs
first_difference-set_same xs i u within same =
    first_difference-set xs i u within ∙ ap (λ b. i + cond b (1 + length (drop (i + 1) xs)) 0) same ∙ omega (arith, length-drop (i + 1) xs)

pub first_difference-set_other : (xs : List ℕ) (i u : ℕ) → i < length xs → nat_eq (get_or xs i 0) u ≡ false → first_difference xs (slice_set xs i u) ≡ i
first_difference-set_other xs i u within other =
    first_difference-set xs i u within ∙ ap (λ b. i + cond b (1 + length (drop (i + 1) xs)) 0) other ∙ omega arith

-- past the end of one of them nothing is the same
pub first_difference-ended : (xs ys : List ℕ) (i : ℕ) → length ys ≤ i → first_difference (drop i xs) (drop i ys) ≡ 0
first_difference-ended xs ys i past = ap (λ (l : List ℕ). first_difference (drop i xs) l) (drop_of_length-le ys past) ∙ first_difference-empty (drop i xs)

-- a text from a place on, as it is cut
pub rest_whole : (xs : List ℕ) (c : ℕ) → take (length xs - c) (drop c xs) ≡ drop c xs
rest_whole xs c = ap (λ n. take n (drop c xs)) (sym (length-drop c xs)) ∙ take-length (drop c xs)

-- the record of an edit
pub edit_is : (old new : List ℕ) (first before : ℕ) → first_difference old new ≡ first → length old ≡ before → (let e : Edit = record { first = first; before = before } in e) ≡ edit_between old new
edit_is old new first before is long = rw (is, long) refl

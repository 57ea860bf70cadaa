-- The first item of a list that passes a test: where it is, and what a change there does.
use Rattle.std.proofs.Common.{◌≡◌, ℕ, suc, ◌+◌, ◌<◌, ◌≤◌, Bool, true, false, cond, not, List, [], ◌∷◌, length, get_or, set, Option, Some, None, position, refl, ap, subst, sym, ◌∙◌, arith, nat_lt}
use Rattle.std.specs.List.{position_or_len, find}
use Rattle.std.proofs.lemmas.Bool.{ltb-false}
use Rattle.std.proofs.lemmas.List.Sums.{prefix_len-le-length}
use Rattle.con_units.specs.Units.{changed_where}

found_by : (b : Bool) (n k : ℕ) → Some k ≡ cond b (Some n) None → k ≡ n
found_by true n k is = cc
found_by false n k is = cc

none_by : (b : Bool) (n : ℕ) → None ≡ cond b (Some n) None → b ≡ false
none_by true n is = cc
none_by false n is = refl

pub place-found : {X : Type 0} (p : X → Bool) (xs : List X) (k : ℕ) → Some k ≡ position p xs → k ≡ position_or_len p xs
place-found p xs k is = found_by (nat_lt (position_or_len p xs) (length xs)) (position_or_len p xs) k is

pub place-none : {X : Type 0} (p : X → Bool) (xs : List X) → None ≡ position p xs → length xs ≡ position_or_len p xs
place-none p xs is =
    let past : length xs ≤ position_or_len p xs = ltb-false (position_or_len p xs) (length xs) (none_by (nat_lt (position_or_len p xs) (length xs)) (position_or_len p xs) is) in
    let within : position_or_len p xs ≤ length xs = prefix_len-le-length (λ x. not (p x)) xs in
    omega arith

module _ {X : Type 0} (p : X → Bool) where
  find_step : (b : Bool) (x : X) (xs : List X) (d : X) (n : ℕ) (r : Option X) → (n < length xs → Some (get_or xs n d) ≡ r) → cond (not b) (1 + n) 0 < length (x ∷ xs) → Some (get_or (x ∷ xs) (cond (not b) (1 + n) 0) d) ≡ cond b (Some x) r
  find_step true x xs d n r rest within = refl
  find_step false x xs d n r rest within =
      let next : 1 + n ≡ suc n = omega arith in
      ap (λ k. Some (get_or (x ∷ xs) k d)) next ∙ rest (omega arith)

  -- the item at the place
  pub find-at : (xs : List X) (d : X) → position_or_len p xs < length xs → Some (get_or xs (position_or_len p xs) d) ≡ find p xs
  find-at [] d within = absurd (omega arith)
  find-at (x ∷ xs) d within = find_step (p x) x xs d (position_or_len p xs) (find p xs) (find-at xs d) within

  past_step : (b : Bool) (x : X) (m n : ℕ) (r : Option X) → (m ≤ n → None ≡ r) → suc m ≤ cond (not b) (1 + n) 0 → None ≡ cond b (Some x) r
  past_step true x m n r rest past = absurd (omega arith)
  past_step false x m n r rest past = rest (omega arith)

  pub find-past : (xs : List X) → length xs ≤ position_or_len p xs → None ≡ find p xs
  find-past [] past = refl
  find-past (x ∷ xs) past = past_step (p x) x (length xs) (position_or_len p xs) (find p xs) (find-past xs) (omega arith)

  changed_step : (b : Bool) (f : X → X) (x : X) (xs : List X) (d : X) (n : ℕ) (r : List X) → (n < length xs → set xs n (f (get_or xs n d)) ≡ r)
      → cond (not b) (1 + n) 0 < length (x ∷ xs) → set (x ∷ xs) (cond (not b) (1 + n) 0) (f (get_or (x ∷ xs) (cond (not b) (1 + n) 0) d)) ≡ cond b (f x ∷ xs) (x ∷ r)
  changed_step true f x xs d n r rest within = refl
  changed_step false f x xs d n r rest within =
      let next : 1 + n ≡ suc n = omega arith in
      ap (λ k. set (x ∷ xs) k (f (get_or (x ∷ xs) k d))) next ∙ ap (λ l. x ∷ l) (rest (omega arith))

  changed-at : (f : X → X) (xs : List X) (d : X) → position_or_len p xs < length xs → set xs (position_or_len p xs) (f (get_or xs (position_or_len p xs) d)) ≡ changed_where p f xs
  changed-at f [] d within = absurd (omega arith)
  changed-at f (x ∷ xs) d within = changed_step (p x) f x xs d (position_or_len p xs) (changed_where p f xs) (changed-at f xs d) within

  unchanged_step : (b : Bool) (f : X → X) (x : X) (xs : List X) (n : ℕ) (r : List X) → (length xs ≤ n → r ≡ xs) → suc (length xs) ≤ cond (not b) (1 + n) 0 → cond b (f x ∷ xs) (x ∷ r) ≡ x ∷ xs
  unchanged_step true f x xs n r rest past = absurd (omega arith)
  unchanged_step false f x xs n r rest past = ap (λ l. x ∷ l) (rest (omega arith))

  -- where there is none, nothing changes
  pub changed-past : (f : X → X) (xs : List X) → length xs ≤ position_or_len p xs → xs ≡ changed_where p f xs
  changed-past f xs past = sym (by_item xs past)
    where
      by_item : (ys : List X) → length ys ≤ position_or_len p ys → changed_where p f ys ≡ ys
      by_item [] past = refl
      by_item (y ∷ ys) past = unchanged_step (p y) f y ys (position_or_len p ys) (changed_where p f ys) (by_item ys) (omega arith)

  -- an item that was written at its place
  pub changed-written : (f : X → X) (xs : List X) (k : ℕ) (was now : X) → k ≡ position_or_len p xs → k < length xs → was ≡ get_or xs k was → now ≡ f was → set xs k now ≡ changed_where p f xs
  changed-written f xs k was now at within read is =
      let here : position_or_len p xs < length xs = subst (λ (i : ℕ). i < length xs) at within in
      ap (set xs k) (is ∙ ap f read) ∙ ap (λ (i : ℕ). set xs i (f (get_or xs i was))) at ∙ changed-at f xs was here

  -- the same, where the item before is read at the place
  pub changed-set : (f : X → X) (xs : List X) (k : ℕ) (d now : X) → k ≡ position_or_len p xs → k < length xs → now ≡ f (get_or xs k d) → set xs k now ≡ changed_where p f xs
  changed-set f xs k d now at within is =
      let here : position_or_len p xs < length xs = subst (λ (i : ℕ). i < length xs) at within in
      ap (set xs k) is ∙ ap (λ (i : ℕ). set xs i (f (get_or xs i d))) at ∙ changed-at f xs d here

  -- an item that was read at its place
  pub found-read : (xs : List X) (k : ℕ) (x : X) → k ≡ position_or_len p xs → k < length xs → x ≡ get_or xs k x → Some x ≡ find p xs
  found-read xs k x at within read =
      let here : position_or_len p xs < length xs = subst (λ (i : ℕ). i < length xs) at within in
      ap (λ (y : X). Some y) read ∙ ap (λ (i : ℕ). Some (get_or xs i x)) at ∙ find-at xs x here

  pub found-there : (xs : List X) (k : ℕ) (d : X) → k ≡ position_or_len p xs → k < length xs → Some (get_or xs k d) ≡ find p xs
  found-there xs k d at within =
      let here : position_or_len p xs < length xs = subst (λ (i : ℕ). i < length xs) at within in
      ap (λ (i : ℕ). Some (get_or xs i d)) at ∙ find-at xs d here

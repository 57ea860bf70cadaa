-- What a search of a history finds.
use Rattle.std.proofs.Common.{◌≡◌, ℕ, zero, suc, ◌+◌, ◌-◌, ◌<◌, ◌≤◌, ◌&&◌, Bool, true, false, cond, nat_eq, List, [], ◌∷◌, length, take, get_or, Option, Some, None, IfSome, refl, sym, subst, arith}
use Rattle.std.specs.List.{starts_with}
use Rattle.std.specs.Cmp.Lexicographic.{pointwise}
use Rattle.std.proofs.lemmas.List.{length-take}
use Rattle.con_history.specs.Histories.{found, last_that_begins}
use Rattle.std.specs.Option.{option_or}

both_true : (p q : Bool) → (p && q) ≡ true → q ≡ true
both_true true q h = h
both_true false q h = cc

-- texts that are the same have one length
same-length : (a b : List ℕ) → pointwise nat_eq a b ≡ true → length a ≡ length b
same-length [] [] h = refl
same-length [] (y ∷ ys) h = cc
same-length (x ∷ xs) [] h = cc
same-length (x ∷ xs) (y ∷ ys) h = let e : length xs ≡ length ys = same-length xs ys (both_true (nat_eq x y) (pointwise nat_eq xs ys) h) in omega arith

-- what begins with some units is no shorter
begins-longer : (line start : List ℕ) → starts_with nat_eq line start ≡ true → length start ≤ length line
begins-longer line start h = let e : length start ≡ length (take (length start) line) = same-length start (take (length start) line) h in omega (arith, e, length-take (length start) line)

-- a line that was found is there, and reaches as far as what it begins with
pub record IsFound (start : List ℕ) (lines : List (List ℕ)) (high k : ℕ) : Type 0 where
  pub within : k < high
  pub reaches : length start ≤ length (get_or lines k [])

some_is : {k j : ℕ} → Some k ≡ Some j → k ≡ j
some_is h = cc

last_step : (b : Bool) (start : List ℕ) (lines : List (List ℕ)) (at high k : ℕ) (rest : Option ℕ) → starts_with nat_eq (get_or lines at []) start ≡ b → at < high
    → (rest ≡ Some k → IsFound start lines high k) → cond b (Some at) rest ≡ Some k → IsFound start lines high k
last_step true start lines at high k rest is within below found_ =
    let here : at ≡ k = some_is found_ in
    subst (IsFound start lines high) here (record { within = within; reaches = begins-longer (get_or lines at []) start is })
last_step false start lines at high k rest is within below found_ = below found_

last-found : (start : List ℕ) (lines : List (List ℕ)) (low n high k : ℕ) → low + n ≤ high → last_that_begins start lines low n ≡ Some k → IsFound start lines high k
last-found start lines low zero high k fits h = cc
last-found start lines low (suc n) high k fits h =
    let within : low + n < high = omega arith in
    let less : low + n ≤ high = omega arith in
    last_step (starts_with nat_eq (get_or lines (low + n) []) start) start lines (low + n) high k (last_that_begins start lines low n) refl within
    (last-found start lines low n high k less) h

or_step : (o p : Option ℕ) (k : ℕ) (P : Type 0) → (o ≡ Some k → P) → (p ≡ Some k → P) → option_or o p ≡ Some k → P
or_step (Some j) p k P first second h = first h
or_step None p k P first second h = second h

pub found-is : (start : List ℕ) (lines : List (List ℕ)) (from k : ℕ) → from ≤ length lines → found start lines from ≡ Some k → IsFound start lines (length lines) k
found-is start lines from k within h =
    let low : 0 + from ≤ length lines = omega arith in
    let high : from + (length lines - from) ≤ length lines = omega arith in
    or_step (last_that_begins start lines 0 from) (last_that_begins start lines from (length lines - from)) k (IsFound start lines (length lines) k)
    (last-found start lines 0 from (length lines) k low) (last-found start lines from (length lines - from) (length lines) k high) h

-- the same of a call's result
pub found-within : (start : List ℕ) (lines : List (List ℕ)) (from : ℕ) (o : Option ℕ) → from ≤ length lines → o ≡ found start lines from → IfSome o (λ k. k < length lines)
found-within start lines from None within is = tt
found-within start lines from (Some k) within is = (found-is start lines from k within (sym is)).within

pub found-reaches : (start : List ℕ) (lines : List (List ℕ)) (from : ℕ) (o : Option ℕ) → from ≤ length lines → o ≡ found start lines from → IfSome o (λ k. length start ≤ length (get_or lines k []))
found-reaches start lines from None within is = tt
found-reaches start lines from (Some k) within is = (found-is start lines from k within (sym is)).reaches

pub found-reaches_at : (start : List ℕ) (lines : List (List ℕ)) (from caret : ℕ) (o : Option ℕ) → from ≤ length lines → o ≡ found start lines from → length start ≡ caret → IfSome o (λ k. caret ≤ length (get_or lines k []))
found-reaches_at start lines from caret o within is long = subst (λ (n : ℕ). IfSome o (λ k. n ≤ length (get_or lines k []))) long (found-reaches start lines from o within is)

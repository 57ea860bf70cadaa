-- The handles of the places: reading one, writing one, emptying one.
use Rattle.std.proofs.Common.{◌≡◌, ◌≢◌, ◌<◌, ◌≤◌, ◌-◌, ◌+◌, ◌*◌, ◌/◌, ◌%◌, ℕ, Bool, List, [], ◌∷◌, ◌++◌, zero, suc, true, false, arith, refl, ap, ◌∙◌, sym, length, slice_set, Option, Some, None}
use Rattle.std.specs.Prelude.{◌==◌, ◌&&◌, ◌||◌, nat_lt, slice_get, option_map, is_some, cond}
use Rattle.std.specs.List.{find, list_any}
use Rattle.std.proofs.lemmas.Nat.{div-mul-add}
use Rattle.std.proofs.Math.Nat.{mul-add-mod_self_right, mod-eq_of_lt}
use Rattle.std.proofs.lemmas.Bool.Decides.{nat_tests}
use Rattle.con_handles.specs.declared.handle.Held.{Held}
use Rattle.con_handles.specs.declared.handle.Handle.{Handle}
use Rattle.con_handles.specs.Handles.{is_at, find_handle, entered, without, is_owned}
use Rattle.con_handles.specs.Words.Handles.{is_used, least_of}
use Rattle.con_handles.specs.Places.{listed, handle_of, place_of, held_in}

-- a place's process and number
pub process_of_place : (p m : ℕ) → m < 64 → (p * 64 + m) / 64 ≡ p
process_of_place p m h = div-mul-add p 64 m h

pub number_of_place : (p m : ℕ) → m < 64 → (p * 64 + m) % 64 ≡ m
number_of_place p m h = mul-add-mod_self_right p 64 m ∙ mod-eq_of_lt h

-- the handle of a place by its process and number
pub handle_here : (k p n : ℕ) (h : Held) → 1 ≤ n → n ≤ 64 → k ≡ place_of p n → handle_of (k / 64) (k % 64 + 1) h ≡ handle_of p n h
handle_here k p n h low high e =
    let m : n - 1 < 64 = omega arith in
    let a : k / 64 ≡ p = rw e (process_of_place p (n - 1) m) in
    let b : k % 64 + 1 ≡ n = rw (e, number_of_place p (n - 1) m) (omega arith) in
    rw (a, b) refl

same_numbers : (p n : ℕ) → (p == p && n == n) ≡ true
same_numbers p n = grind (arith, nat_tests)

joined : (k p n : ℕ) → 1 ≤ n → n ≤ 64 → k ≡ p * 64 + (n - 1) → (k / 64 == p && k % 64 + 1 == n) ≡ true
joined k p n low high e =
    let m : n - 1 < 64 = omega arith in
    let a : k / 64 ≡ p = rw e (process_of_place p (n - 1) m) in
    let b : k % 64 + 1 ≡ n = rw (e, number_of_place p (n - 1) m) (omega arith) in
    rw (a, b) (same_numbers p n)

-- the test for a process and a number, at a place
pub is_at-here : (k p n : ℕ) (h : Held) → 1 ≤ n → n ≤ 64 → k ≡ place_of p n → is_at p n (handle_of (k / 64) (k % 64 + 1) h) ≡ true
is_at-here k p n h low high e = joined k p n low high e

apart : (k p n : ℕ) → 1 ≤ n → k ≢ p * 64 + (n - 1) → (k / 64 == p && k % 64 + 1 == n) ≡ false
apart k p n low ne = grind (arith, nat_tests)

pub is_at-other : (k p n : ℕ) (h : Held) → 1 ≤ n → k ≢ place_of p n → is_at p n (handle_of (k / 64) (k % 64 + 1) h) ≡ false
is_at-other k p n h low ne = apart k p n low ne

-- past its place no handle has the process and the number
pub find-past : (ps : List (Option Held)) (k p n : ℕ) → 1 ≤ n → p * 64 + (n - 1) < k → find (is_at p n) (listed k ps) ≡ None
unfolding listed
find-past [] k p n low lt = refl
find-past (None ∷ ps) k p n low lt = find-past ps (k + 1) p n low (omega arith)
find-past (Some h ∷ ps) k p n low lt =
    let ne : k ≢ p * 64 + (n - 1) = omega arith in
    rw (is_at-other k p n h low ne) (find-past ps (k + 1) p n low (omega arith))

pub find-here : (ps : List (Option Held)) (d k p n : ℕ) → 1 ≤ n → n ≤ 64 → k + d ≡ p * 64 + (n - 1) → find (is_at p n) (listed k ps) ≡ option_map (handle_of p n) (held_in (slice_get ps d))
unfolding listed
find-here [] d k p n low high e = refl
find-here (None ∷ ps) zero k p n low high e = find-past ps (k + 1) p n low (omega arith)
find-here (Some h ∷ ps) zero k p n low high e =
    let at : k ≡ p * 64 + (n - 1) = omega arith in
    rw (is_at-here k p n h low high at) (ap (λ (x : Handle). Some x) (handle_here k p n h low high at))
find-here (None ∷ ps) (suc d) k p n low high e = find-here ps d (k + 1) p n low high (omega arith)
find-here (Some h ∷ ps) (suc d) k p n low high e =
    let ne : k ≢ p * 64 + (n - 1) = omega arith in
    rw (is_at-other k p n h low ne) (find-here ps d (k + 1) p n low high (omega arith))

and_false : (b : Bool) → (b && false) ≡ false
and_false true = refl
and_false false = refl

-- no handle has a number that is not 1 to 64
pub find-outside : (ps : List (Option Held)) (k p n : ℕ) → ((j : ℕ) → (j % 64 + 1 == n) ≡ false) → find (is_at p n) (listed k ps) ≡ None
unfolding listed
find-outside [] k p n out = refl
find-outside (None ∷ ps) k p n out = find-outside ps (k + 1) p n out
find-outside (Some h ∷ ps) k p n out = rw (out k, and_false (k / 64 == p)) (find-outside ps (k + 1) p n out)

pub below_one : (n j : ℕ) → n < 1 → (j % 64 + 1 == n) ≡ false
below_one n j h = grind (arith, nat_tests)

pub above_most : (n j : ℕ) → 64 < n → (j % 64 + 1 == n) ≡ false
above_most n j h = grind (arith, nat_tests)

pub used_found : (t : Handle → Bool) (hs : List Handle) → is_some (find t hs) ≡ list_any t hs
used_found t [] = refl
used_found t (h ∷ hs) = elim (t h) as (λ b. is_some (cond b (Some h) (find t hs)) ≡ (b || list_any t hs)) [ true ↦ refl | false ↦ used_found t hs ]

pub not_used : (hs : List Handle) (p n : ℕ) → find (is_at p n) hs ≡ None → is_used hs p n ≡ false
not_used hs p n e = sym (used_found (is_at p n) hs) ∙ ap is_some e

none_of : (f : Held → Handle) (o : Option Held) → is_some (option_map f o) ≡ false → o ≡ None
none_of f None e = refl
none_of f (Some h) e = cc

empty_place : (ps : List (Option Held)) (d : ℕ) → d < length ps → held_in (slice_get ps d) ≡ None → slice_get ps d ≡ Some None
empty_place [] d lt e = absurd (omega arith)
empty_place (x ∷ ps) zero lt e = ap (λ (y : Option Held). Some y) e
empty_place (x ∷ ps) (suc d) lt e = empty_place ps d (omega arith) e

is_before-yes : (k p n : ℕ) → 1 ≤ n → n ≤ 64 → k < p * 64 + (n - 1) → (nat_lt (k / 64) p || k / 64 == p && nat_lt (k % 64 + 1) n) ≡ true
is_before-yes k p n low high lt = grind (arith, nat_tests)

is_before-no : (k p n : ℕ) → 1 ≤ n → n ≤ 64 → p * 64 + (n - 1) < k → (nat_lt (k / 64) p || k / 64 == p && nat_lt (k % 64 + 1) n) ≡ false
is_before-no k p n low high lt = grind (arith, nat_tests)

entered-past : (ps : List (Option Held)) (k p n : ℕ) (x : Held) → 1 ≤ n → n ≤ 64 → p * 64 + (n - 1) < k → entered (handle_of p n x) (listed k ps) ≡ handle_of p n x ∷ listed k ps
unfolding listed
entered-past [] k p n x low high lt = refl
entered-past (None ∷ ps) k p n x low high lt = entered-past ps (k + 1) p n x low high (omega arith)
entered-past (Some g ∷ ps) k p n x low high lt = rw (is_before-no k p n low high lt) refl

-- a handle is put at its place
entered-here : (ps : List (Option Held)) (d k p n : ℕ) (x : Held) → 1 ≤ n → n ≤ 64 → k + d ≡ p * 64 + (n - 1) → slice_get ps d ≡ Some None → entered (handle_of p n x) (listed k ps) ≡ listed k (slice_set ps d (Some x))
unfolding listed
entered-here [] d k p n x low high e free = cc
entered-here (None ∷ ps) zero k p n x low high e free =
    let at : k ≡ p * 64 + (n - 1) = omega arith in
    let past : p * 64 + (n - 1) < k + 1 = omega arith in
    entered-past ps (k + 1) p n x low high past ∙ ap (λ (h : Handle). h ∷ listed (k + 1) ps) (sym (handle_here k p n x low high at))
entered-here (Some g ∷ ps) zero k p n x low high e free = cc
entered-here (None ∷ ps) (suc d) k p n x low high e free = entered-here ps d (k + 1) p n x low high (omega arith) free
entered-here (Some g ∷ ps) (suc d) k p n x low high e free =
    let lt : k < p * 64 + (n - 1) = omega arith in
    rw (is_before-yes k p n low high lt) (ap (λ (hs : List Handle). handle_of (k / 64) (k % 64 + 1) g ∷ hs) (entered-here ps d (k + 1) p n x low high (omega arith) free))

pub put_is : (ps : List (Option Held)) (p n : ℕ) (x : Held) → 1 ≤ n → n ≤ 64 → p * 64 + (n - 1) < length ps → is_used (listed 0 ps) p n ≡ false → entered (handle_of p n x) (listed 0 ps) ≡ listed 0 (slice_set ps (p * 64 + (n - 1)) (Some x))
put_is ps p n x low high lt free =
    let d = p * 64 + (n - 1) in
    let none : is_some (option_map (handle_of p n) (held_in (slice_get ps d))) ≡ false = sym (ap is_some (find-here ps d 0 p n low high (omega arith))) ∙ used_found (is_at p n) (listed 0 ps) ∙ free in
    entered-here ps d 0 p n x low high (omega arith) (empty_place ps d lt (none_of (handle_of p n) (held_in (slice_get ps d)) none))

without-past : (ps : List (Option Held)) (k p n : ℕ) → 1 ≤ n → p * 64 + (n - 1) < k → without (listed k ps) p n ≡ listed k ps
unfolding listed
without-past [] k p n low lt = refl
without-past (None ∷ ps) k p n low lt = without-past ps (k + 1) p n low (omega arith)
without-past (Some h ∷ ps) k p n low lt =
    let ne : k ≢ p * 64 + (n - 1) = omega arith in
    rw (is_at-other k p n h low ne) (ap (λ (hs : List Handle). handle_of (k / 64) (k % 64 + 1) h ∷ hs) (without-past ps (k + 1) p n low (omega arith)))

-- a place is emptied
pub without-here : (ps : List (Option Held)) (d k p n : ℕ) → 1 ≤ n → n ≤ 64 → k + d ≡ p * 64 + (n - 1) → without (listed k ps) p n ≡ listed k (slice_set ps d None)
unfolding listed
without-here [] d k p n low high e = refl
without-here (None ∷ ps) zero k p n low high e = without-past ps (k + 1) p n low (omega arith)
without-here (Some h ∷ ps) zero k p n low high e =
    let at : k ≡ p * 64 + (n - 1) = omega arith in
    rw (is_at-here k p n h low high at) (without-past ps (k + 1) p n low (omega arith))
without-here (None ∷ ps) (suc d) k p n low high e = without-here ps d (k + 1) p n low high (omega arith)
without-here (Some h ∷ ps) (suc d) k p n low high e =
    let ne : k ≢ p * 64 + (n - 1) = omega arith in
    rw (is_at-other k p n h low ne) (ap (λ (hs : List Handle). handle_of (k / 64) (k % 64 + 1) h ∷ hs) (without-here ps d (k + 1) p n low high (omega arith)))

pub set_past : (ps : List (Option Held)) (d : ℕ) (x : Option Held) → length ps ≤ d → slice_set ps d x ≡ ps
set_past [] d x le = refl
set_past (y ∷ ps) zero x le = absurd (omega arith)
set_past (y ∷ ps) (suc d) x le = ap (λ (qs : List (Option Held)). y ∷ qs) (set_past ps d x (omega arith))

pub listed-none : (ps : List (Option Held)) (k : ℕ) → listed k (ps ++ None ∷ []) ≡ listed k ps
unfolding listed
listed-none [] k = refl
listed-none (None ∷ ps) k = listed-none ps (k + 1)
listed-none (Some h ∷ ps) k = ap (λ (hs : List Handle). handle_of (k / 64) (k % 64 + 1) h ∷ hs) (listed-none ps (k + 1))

find_rest : (t : Handle → Bool) (h : Handle) (hs : List Handle) → find t (h ∷ hs) ≡ None → find t hs ≡ None
find_rest t h hs = elim (t h) as (λ b. cond b (Some h) (find t hs) ≡ None → find t hs ≡ None) [ true ↦ λ e. cc | false ↦ λ e. e ]

-- a handle at the front has another process, where the process has none with its number
other_owner : (k p : ℕ) (h : Held) (hs : List Handle) (b : Bool) → (k / 64 == p) ≡ b → find (is_at p (k % 64 + 1)) (handle_of (k / 64) (k % 64 + 1) h ∷ hs) ≡ None → b ≡ false
other_owner k p h hs false t e = refl
other_owner k p h hs true t e =
    let same : (k % 64 + 1 == k % 64 + 1) ≡ true = grind (arith, nat_tests) in
    let found : Some (handle_of (k / 64) (k % 64 + 1) h) ≡ None = rw (t, same) at e in
    cc

-- the process has none of the numbers below n
pub NoneBelow : List Handle → ℕ → ℕ → Type 0
NoneBelow hs p n = (m : ℕ) → 1 ≤ m → m < n → find (is_at p m) hs ≡ None

none_rest : (h : Handle) (hs : List Handle) (p n : ℕ) → NoneBelow (h ∷ hs) p n → NoneBelow hs p n
unfolding NoneBelow
none_rest h hs p n none = λ m low lt. find_rest (is_at p m) h hs (none m low lt)

pub none_owned : (ps : List (Option Held)) (k p n : ℕ) → 64 < n → NoneBelow (listed k ps) p n → find (is_owned p) (listed k ps) ≡ None
unfolding listed NoneBelow
none_owned [] k p n lt none = refl
none_owned (None ∷ ps) k p n lt none = none_owned ps (k + 1) p n lt none
none_owned (Some h ∷ ps) k p n lt none =
    rw (other_owner k p h (listed (k + 1) ps) (k / 64 == p) refl (none (k % 64 + 1) (omega arith) (omega arith)))
    (none_owned ps (k + 1) p n lt (none_rest (handle_of (k / 64) (k % 64 + 1) h) (listed (k + 1) ps) p n none))

-- a handle before the place of n has another process
front_other : (k p n : ℕ) (h : Held) (hs : List Handle) → k < p * 64 + (n - 1) → NoneBelow (handle_of (k / 64) (k % 64 + 1) h ∷ hs) p n → (k / 64 == p) ≡ false
unfolding NoneBelow
front_other k p n h hs lt none = by_owner (k / 64 == p) refl
  where
    by_owner : (b : Bool) → (k / 64 == p) ≡ b → b ≡ false
    by_owner false t = refl
    by_owner true t =
        let own : k / 64 ≡ p = grind (arith, nat_tests) in
        other_owner k p h hs true t (none (k % 64 + 1) (omega arith) (omega arith))

pub first_owned : (ps : List (Option Held)) (d k p n : ℕ) (x : Held) → 1 ≤ n → n ≤ 64 → k + d ≡ p * 64 + (n - 1) → held_in (slice_get ps d) ≡ Some x → NoneBelow (listed k ps) p n → find (is_owned p) (listed k ps) ≡ Some (handle_of p n x)
unfolding listed NoneBelow
first_owned [] d k p n x low high e here none = cc
first_owned (None ∷ ps) zero k p n x low high e here none = cc
first_owned (Some h ∷ ps) zero k p n x low high e here none =
    let at : k ≡ p * 64 + (n - 1) = omega arith in
    let own : (k / 64 == p) ≡ true = rw at (rw (process_of_place p (n - 1) (omega arith)) (grind (arith, nat_tests))) in
    let same : h ≡ x = cc in
    rw own (ap (λ (y : Handle). Some y) (handle_here k p n h low high at ∙ ap (handle_of p n) same))
first_owned (None ∷ ps) (suc d) k p n x low high e here none = first_owned ps d (k + 1) p n x low high (omega arith) here none
first_owned (Some h ∷ ps) (suc d) k p n x low high e here none =
    rw (front_other k p n h (listed (k + 1) ps) (omega arith) none)
    (first_owned ps d (k + 1) p n x low high (omega arith) here (none_rest (handle_of (k / 64) (k % 64 + 1) h) (listed (k + 1) ps) p n none))

pub none_more : (hs : List Handle) (p n : ℕ) → NoneBelow hs p n → find (is_at p n) hs ≡ None → NoneBelow hs p (n + 1)
unfolding NoneBelow
none_more hs p n none here = λ m low lt. by_place m low lt (m == n) refl
  where
    by_place : (m : ℕ) → 1 ≤ m → m < n + 1 → (b : Bool) → (m == n) ≡ b → find (is_at p m) hs ≡ None
    by_place m low lt true e = let same : m ≡ n = grind (arith, nat_tests) in rw same here
    by_place m low lt false e = let less : m < n = grind (arith, nat_tests) in none m low less

pub none_at_first : (hs : List Handle) (p : ℕ) → NoneBelow hs p 1
unfolding NoneBelow
none_at_first hs p = λ m low lt. absurd (omega arith)

-- a number that is used is not below
pub least_used : (ps : List (Option Held)) (p n : ℕ) → NoneBelow (listed 0 ps) p n → (m : ℕ) → is_used (listed 0 ps) p m ≡ true → n ≤ m
unfolding NoneBelow
least_used ps p n none m used = by_place (nat_lt m n) refl (nat_lt m 1) refl
  where
    wrong : find (is_at p m) (listed 0 ps) ≡ None → ⊥
    wrong e = let f : is_used (listed 0 ps) p m ≡ false = not_used (listed 0 ps) p m e in let t : true ≡ false = sym used ∙ f in (cc)

    by_place : (a : Bool) → nat_lt m n ≡ a → (b : Bool) → nat_lt m 1 ≡ b → n ≤ m
    by_place false e b f = grind (arith, nat_tests)
    by_place true e true f = let small : m < 1 = grind (arith, nat_tests) in absurd (wrong (find-outside ps 0 p m (λ j. below_one m j small)))
    by_place true e false f = let low : 1 ≤ m = grind (arith, nat_tests) in let lt : m < n = grind (arith, nat_tests) in absurd (wrong (none m low lt))

-- what a place holds, where a handle was found there
pub held_there : (f : Held → Handle) (o : Option Held) (h : Handle) → Some h ≡ option_map f o → (x : Held) × ((o ≡ Some x) × (h ≡ f x))
held_there f None h e = cc
held_there f (Some x) h e = (x, (refl, cc))

-- the first number that is found is that of the process's first handle
pub first_found : (ps : List (Option Held)) (p n : ℕ) (h : Handle) → 1 ≤ n → n ≤ 64 → NoneBelow (listed 0 ps) p n → Some h ≡ find_handle (listed 0 ps) p n → Some h ≡ least_of (listed 0 ps) p
first_found ps p n h low high none e =
    let d = p * 64 + (n - 1) in
    let x = held_there (handle_of p n) (held_in (slice_get ps d)) h (e ∙ find-here ps d 0 p n low high (omega arith)) in
    ap (λ (y : Handle). Some y) (x.1.1) ∙ sym (first_owned ps d 0 p n x.0 low high (omega arith) x.1.0 none)

-- A process has 64 handles exactly where it uses each number from 1 to 64.
use Rattle.std.proofs.Common.{◌≡◌, ◌<◌, ◌≤◌, ◌-◌, ◌+◌, ◌*◌, ◌/◌, ◌%◌, ℕ, Bool, List, [], ◌∷◌, zero, suc, true, false, arith, refl, ◌∙◌, sym, length, Option, Some, None}
use Rattle.std.specs.Prelude.{◌==◌, ◌&&◌, ◌||◌, filter, if◌then◌else◌, nat_le, Result, Ok, Err, ◌↔◌}
use Rattle.std.proofs.lemmas.Bool.Decides.{nat_tests}
use Rattle.con_units.specs.declared.code.Code.{Code}
use Rattle.con_units.specs.declared.code.Code.TheVariants as code
use Rattle.con_handles.specs.declared.handle.Held.{Held}
use Rattle.con_handles.specs.declared.handle.Handle.{Handle}
use Rattle.con_handles.specs.Handles.{is_owned, free_from, new_number}
use Rattle.con_handles.specs.Words.Handles.{is_used, least_free, count_of}
use Rattle.con_handles.specs.Places.{listed, handle_of}
use Rattle.con_handles.proofs.Listed.{find-past, not_used}

one_if : Bool → ℕ
one_if b = if b then 1 else 0

-- how many of the numbers 1 to m are used
pub used_upto : List Handle → ℕ → ℕ → ℕ
used_upto hs p zero = 0
used_upto hs p (suc m) = used_upto hs p m + one_if (is_used hs p (suc m))

upto_none : (p m : ℕ) → used_upto [] p m ≡ 0
unfolding used_upto one_if
upto_none p zero = refl
upto_none p (suc m) = let h = upto_none p m in omega arith

few_used : (hs : List Handle) (p m : ℕ) → used_upto hs p m ≤ m
unfolding used_upto one_if
few_used hs p zero = omega arith
few_used hs p (suc m) = by_used (is_used hs p (suc m)) (few_used hs p m)
  where
    by_used : (b : Bool) → used_upto hs p m ≤ m → used_upto hs p m + one_if b ≤ suc m
    by_used true h = omega arith
    by_used false h = omega arith

-- a handle of another process counts for nothing
other_process : (h : Handle) (hs : List Handle) (p m : ℕ) → (h.process == p) ≡ false → used_upto (h ∷ hs) p m ≡ used_upto hs p m
unfolding used_upto
other_process h hs p zero e = refl
other_process h hs p (suc m) e = rw (e, other_process h hs p m e) refl

other_number : (h : Handle) (hs : List Handle) (p m : ℕ) → m < h.number → used_upto (h ∷ hs) p m ≡ used_upto hs p m
unfolding used_upto
other_number h hs p zero lt = refl
other_number h hs p (suc m) lt =
    let ne : (h.number == suc m) ≡ false = grind (arith, nat_tests) in
    rw (ne, other_number h hs p m (omega arith)) (by_process (h.process == p))
  where
    by_process : (b : Bool) → used_upto hs p m + one_if (b && false || is_used hs p (suc m)) ≡ used_upto hs p m + one_if (is_used hs p (suc m))
    by_process true = refl
    by_process false = refl

OneMore : Handle → List Handle → ℕ → ℕ → Type 0
OneMore h hs p m = h.number ≤ m → used_upto (h ∷ hs) p m ≡ used_upto hs p m + 1

more_by : (h : Handle) (hs : List Handle) (p m : ℕ) → (h.process == p) ≡ true → is_used hs p h.number ≡ false → (b : Bool) → (h.number == suc m) ≡ b → OneMore h hs p m → OneMore h hs p (suc m)
unfolding used_upto one_if OneMore
more_by h hs p m e free true s ih high =
    let same : h.number ≡ suc m = grind (arith, nat_tests) in
    let unused : is_used hs p (suc m) ≡ false = rw same at free in
    rw (e, s, unused, other_number h hs p m (omega arith)) (omega arith)
more_by h hs p m e free false s ih high =
    let below : h.number ≤ m = grind (arith, nat_tests) in
    rw (e, s, ih below) (omega arith)

-- a handle whose number was free counts for one
one_more : (h : Handle) (hs : List Handle) (p m : ℕ) → (h.process == p) ≡ true → 1 ≤ h.number → is_used hs p h.number ≡ false → OneMore h hs p m
unfolding OneMore
one_more h hs p zero e low free high = absurd (omega arith)
one_more h hs p (suc m) e low free high = more_by h hs p m e free (h.number == suc m) refl (one_more h hs p m e low free) high

one_more_of : (h : Handle) (hs : List Handle) (p m : ℕ) → (h.process == p) ≡ true → 1 ≤ h.number → is_used hs p h.number ≡ false → h.number ≤ m → used_upto (h ∷ hs) p m ≡ used_upto hs p m + 1
unfolding OneMore
one_more_of h hs p m e low free high = one_more h hs p m e low free high

count_cons : (t : Handle → Bool) (x : Handle) (xs : List Handle) (b : Bool) → t x ≡ b → length (filter t (x ∷ xs)) ≡ (if b then 1 else 0) + length (filter t xs)
count_cons t x xs true e = rw e (omega arith)
count_cons t x xs false e = rw e (omega arith)

pub counted : (ps : List (Option Held)) (k p : ℕ) → count_of (listed k ps) p ≡ used_upto (listed k ps) p 64
unfolding listed
counted [] k p = sym (upto_none p 64)
counted (None ∷ ps) k p = counted ps (k + 1) p
counted (Some h ∷ ps) k p = by_process (k / 64 == p) refl (counted ps (k + 1) p)
  where
    by_process : (b : Bool) → (k / 64 == p) ≡ b → count_of (listed (k + 1) ps) p ≡ used_upto (listed (k + 1) ps) p 64 → count_of (handle_of (k / 64) (k % 64 + 1) h ∷ listed (k + 1) ps) p ≡ used_upto (handle_of (k / 64) (k % 64 + 1) h ∷ listed (k + 1) ps) p 64
    by_process true e ih =
        let own : k / 64 ≡ p = grind (arith, nat_tests) in
        let past : p * 64 + (k % 64 + 1 - 1) < k + 1 = omega arith in
        let free : is_used (listed (k + 1) ps) p (k % 64 + 1) ≡ false = not_used (listed (k + 1) ps) p (k % 64 + 1) (find-past ps (k + 1) p (k % 64 + 1) (omega arith) past) in
        let c = count_cons (is_owned p) (handle_of (k / 64) (k % 64 + 1) h) (listed (k + 1) ps) true e in
        let o = one_more_of (handle_of (k / 64) (k % 64 + 1) h) (listed (k + 1) ps) p 64 e (omega arith) free (omega arith) in
        omega arith
    by_process false e ih =
        let c = count_cons (is_owned p) (handle_of (k / 64) (k % 64 + 1) h) (listed (k + 1) ps) false e in
        let o = other_process (handle_of (k / 64) (k % 64 + 1) h) (listed (k + 1) ps) p 64 e in
        omega arith

AllUsed : List Handle → ℕ → ℕ → Type 0
AllUsed hs p m = (n : ℕ) → 1 ≤ n → n ≤ m → is_used hs p n ≡ true

last_used : (b : Bool) (a m : ℕ) → a ≤ m → a + one_if b ≡ suc m → (b ≡ true) × (a ≡ m)
unfolding one_if
last_used true a m le e = (refl, omega arith)
last_used false a m le e = absurd (omega arith)

all_more : (hs : List Handle) (p m : ℕ) → AllUsed hs p m → is_used hs p (suc m) ≡ true → AllUsed hs p (suc m)
unfolding AllUsed
all_more hs p m all last = λ n low high. by_place n low high (n == suc m) refl
  where
    by_place : (n : ℕ) → 1 ≤ n → n ≤ suc m → (b : Bool) → (n == suc m) ≡ b → is_used hs p n ≡ true
    by_place n low high true e = let same : n ≡ suc m = grind (arith, nat_tests) in rw same last
    by_place n low high false e = let below : n ≤ m = grind (arith, nat_tests) in all n low below

all_used : (hs : List Handle) (p m : ℕ) → used_upto hs p m ≡ m → AllUsed hs p m
unfolding AllUsed used_upto
all_used hs p zero e = λ n low high. absurd (omega arith)
all_used hs p (suc m) e = let both = last_used (is_used hs p (suc m)) (used_upto hs p m) m (few_used hs p m) e in all_more hs p m (all_used hs p m both.1) both.0

upto_all : (hs : List Handle) (p m : ℕ) → AllUsed hs p m → used_upto hs p m ≡ m
unfolding AllUsed used_upto one_if
upto_all hs p zero all = refl
upto_all hs p (suc m) all =
    let before = upto_all hs p m (λ n low high. all n low (omega arith)) in
    let last = all (suc m) (omega arith) (omega arith) in
    rw (last, before) (omega arith)

free_all : (hs : List Handle) (p from k : ℕ) → ((n : ℕ) → from ≤ n → n < from + k → is_used hs p n ≡ true) → free_from hs p from k ≡ from + k
unfolding free_from
free_all hs p from zero all = omega arith
free_all hs p from (suc k) all =
    let here = all from (omega arith) (omega arith) in
    let rest = free_all hs p (from + 1) k (λ n low high. all n (omega arith) (omega arith)) in
    rw (here, rest) (omega arith)

UsedBelow : List Handle → ℕ → ℕ → ℕ → Type 0
UsedBelow hs p from k = (n : ℕ) → from ≤ n → n < free_from hs p from k → is_used hs p n ≡ true

below_by : (hs : List Handle) (p from k : ℕ) (b : Bool) → is_used hs p from ≡ b → UsedBelow hs p (from + 1) k → UsedBelow hs p from (suc k)
unfolding UsedBelow free_from
below_by hs p from k true e ih = rw e (λ n low lt. by_place n low lt (n == from) refl)
  where
    by_place : (n : ℕ) → from ≤ n → n < free_from hs p (from + 1) k → (b : Bool) → (n == from) ≡ b → is_used hs p n ≡ true
    by_place n low lt true s = let same : n ≡ from = grind (arith, nat_tests) in rw same e
    by_place n low lt false s = let more : from + 1 ≤ n = grind (arith, nat_tests) in ih n more lt
below_by hs p from k false e ih = rw e (λ n low lt. absurd (omega arith))

used_below : (hs : List Handle) (p from k : ℕ) → UsedBelow hs p from k
unfolding UsedBelow free_from
used_below hs p from zero = λ n low lt. absurd (omega arith)
used_below hs p from (suc k) = below_by hs p from k (is_used hs p from) refl (used_below hs p (from + 1) k)

refused_past : (n : ℕ) → (if nat_le n 64 then Ok n else Err code.Limit) ≡ Err code.Limit → 64 < n
refused_past n = by_order (nat_le n 64) refl
  where
    by_order : (b : Bool) → nat_le n 64 ≡ b → (if b then Ok n else Err code.Limit) ≡ Err code.Limit → 64 < n
    by_order true t e = cc
    by_order false t e = grind (arith, nat_tests)

to_limit : (hs : List Handle) (p : ℕ) → used_upto hs p 64 ≡ 64 → new_number hs p ≡ Err code.Limit
unfolding AllUsed
to_limit hs p e =
    let all = all_used hs p 64 e in
    let s : least_free hs p ≡ 65 = free_all hs p 1 64 (λ n low high. all n low (omega arith)) in
    rw s refl

from_limit : (hs : List Handle) (p : ℕ) → new_number hs p ≡ Err code.Limit → used_upto hs p 64 ≡ 64
unfolding AllUsed UsedBelow
from_limit hs p e =
    let past = refused_past (least_free hs p) e in
    upto_all hs p 64 (λ n low high. used_below hs p 1 64 n low (omega arith))

pub limit_at_64 : (ps : List (Option Held)) (p : ℕ) → (new_number (listed 0 ps) p ≡ Err code.Limit) ↔ (count_of (listed 0 ps) p ≡ 64)
limit_at_64 ps p = (λ e. counted ps 0 p ∙ from_limit (listed 0 ps) p e, λ e. to_limit (listed 0 ps) p (sym (counted ps 0 p) ∙ e))

-- the same of a number that was found, and refused past 64
pub limit_for : (ps : List (Option Held)) (p : ℕ) (r : Result ℕ Code) → r ≡ new_number (listed 0 ps) p → (r ≡ Err code.Limit) ↔ (count_of (listed 0 ps) p ≡ 64)
limit_for ps p r q = let both = limit_at_64 ps p in (λ e. both.0 (sym q ∙ e), λ e. q ∙ both.1 e)

pub number_past : (hs : List Handle) (p n : ℕ) → n ≡ least_free hs p → 64 < n → ◌≡◌ {A = Result ℕ Code} (Err code.Limit) (new_number hs p)
number_past hs p n e lt =
    let past : nat_le n 64 ≡ false = grind (arith, nat_tests) in
    rw (← e, past) refl

pub number_found : (hs : List Handle) (p n : ℕ) → n ≡ least_free hs p → n ≤ 64 → ◌≡◌ {A = Result ℕ Code} (Ok n) (new_number hs p)
number_found hs p n e le =
    let small : nat_le n 64 ≡ true = grind (arith, nat_tests) in
    rw (← e, small) refl

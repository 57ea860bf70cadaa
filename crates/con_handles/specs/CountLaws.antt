-- How many handles pass a test, as handles are opened and closed.
use Rattle.std.proofs.Common.{◌≡◌, ℕ, suc, ◌+◌, ◌-◌, ◌*◌, ◌<◌, ◌≤◌, Bool, true, false, cond, List, [], ◌∷◌, length, max, Some, refl, ap, arith}
use Rattle.std.specs.Prelude.{◌==◌, ◌&&◌, not, filter}
use Rattle.std.specs.List.{find}
use Rattle.std.proofs.lemmas.Bool.Decides.{nat_tests}
use Rattle.con_handles.specs.declared.handle.Handle.{Handle}
use Rattle.con_handles.specs.Handles.{entered, without, is_at, is_owned, find_handle}
use Rattle.con_handles.specs.Words.Handles.{is_before, count_of, least_of}
use Rattle.con_handles.specs.Places.{place_of}
use Rattle.con_handles.specs.Tables.{IsRising, IsTable, tally}

-- ---- one handle more

pub tally_entered : (t : Handle → Bool) (h : Handle) (hs : List Handle) → tally t (entered h hs) ≡ cond (t h) 1 0 + tally t hs
tally_entered t h [] = refl
tally_entered t h (g ∷ gs) = by_place (tally_entered t h gs) (is_before g h)
  where
    by_place : tally t (entered h gs) ≡ cond (t h) 1 0 + tally t gs → (b : Bool)
        → tally t (cond b (g ∷ entered h gs) (h ∷ g ∷ gs)) ≡ cond (t h) 1 0 + tally t (g ∷ gs)
    by_place ih true = omega (arith, ih)
    by_place ih false = refl

-- ---- how many there are

pub count_tally : (t : Handle → Bool) (hs : List Handle) → length (filter t hs) ≡ tally t hs
count_tally t [] = refl
count_tally t (g ∷ gs) = by_test (count_tally t gs) (t g)
  where
    by_test : length (filter t gs) ≡ tally t gs → (b : Bool) → length (cond b (g ∷ filter t gs) (filter t gs)) ≡ cond b 1 0 + tally t gs
    by_test ih true = omega (arith, ih)
    by_test ih false = omega (arith, ih)

pub tally_short : (t : Handle → Bool) (hs : List Handle) → tally t hs ≤ length hs
tally_short t [] = omega arith
tally_short t (g ∷ gs) = by_test (tally_short t gs) (t g)
  where
    by_test : tally t gs ≤ length gs → (b : Bool) → cond b 1 0 + tally t gs ≤ suc (length gs)
    by_test ih true = omega (arith, ih)
    by_test ih false = omega (arith, ih)

-- what is found is counted
pub tally_found : (t q : Handle → Bool) (hs : List Handle) (h : Handle) → find q hs ≡ Some h → t h ≡ true → 0 < tally t hs
tally_found t q [] h e is = cc
tally_found t q (g ∷ gs) h e is = by_test (tally_found t q gs h) (q g) e
  where
    by_test : (find q gs ≡ Some h → t h ≡ true → 0 < tally t gs) → (b : Bool) → cond b (Some g) (find q gs) ≡ Some h → 0 < cond (t g) 1 0 + tally t gs
    by_test ih true e =
        let same : g ≡ h = cc in
        rw (same, is) (omega arith)
    by_test ih false e = let some = ih e is in omega (arith, some)

-- none is before the place from which they rise
tally_past : (p n from : ℕ) (hs : List Handle) → IsRising from hs → place_of p n < from → tally (is_at p n) hs ≡ 0
tally_past p n from [] are lt = refl
tally_past p n from (g ∷ gs) are lt =
    by_process (tally_past p n (place_of g.process g.number + 1) gs are.2 (let past = are.1 in omega arith)) (g.process == p) refl (g.number == n) refl
  where
    by_process : tally (is_at p n) gs ≡ 0 → (a : Bool) → (g.process == p) ≡ a → (b : Bool) → (g.number == n) ≡ b → cond (a && b) 1 0 + tally (is_at p n) gs ≡ 0
    by_process rest true x true y =
        let one : g.process ≡ p = grind (arith, nat_tests) in
        let two : g.number ≡ n = grind (arith, nat_tests) in
        let low = are.1 in
        absurd (omega arith)
    by_process rest true x false y = omega (arith, rest)
    by_process rest false x b y = omega (arith, rest)

tally_once : (p n from : ℕ) (hs : List Handle) → IsRising from hs → tally (is_at p n) hs ≤ 1
tally_once p n from [] are = omega arith
tally_once p n from (g ∷ gs) are = by_key (tally_once p n (place_of g.process g.number + 1) gs are.2) (g.process == p) refl (g.number == n) refl
  where
    by_key : tally (is_at p n) gs ≤ 1 → (a : Bool) → (g.process == p) ≡ a → (b : Bool) → (g.number == n) ≡ b → cond (a && b) 1 0 + tally (is_at p n) gs ≤ 1
    by_key rest true x true y =
        let one : g.process ≡ p = grind (arith, nat_tests) in
        let two : g.number ≡ n = grind (arith, nat_tests) in
        let none : tally (is_at p n) gs ≡ 0 = tally_past p n (place_of g.process g.number + 1) gs are.2 (omega arith) in
        omega (arith, none)
    by_key rest true x false y = omega (arith, rest)
    by_key rest false x b y = omega (arith, rest)

-- a process has a number once
pub tally_single : (hs : List Handle) → IsTable hs → (p n : ℕ) → tally (is_at p n) hs ≤ 1
tally_single hs are p n = tally_once p n 0 hs are

few_from : (p from : ℕ) (hs : List Handle) → IsRising from hs → tally (is_owned p) hs ≤ p * 64 + 64 - max from (p * 64)
few_from p from [] are = omega arith
few_from p from (g ∷ gs) are = by_owner (few_from p (place_of g.process g.number + 1) gs are.2) (g.process == p) refl
  where
    by_owner : tally (is_owned p) gs ≤ p * 64 + 64 - max (place_of g.process g.number + 1) (p * 64) → (b : Bool) → (g.process == p) ≡ b
        → cond b 1 0 + tally (is_owned p) gs ≤ p * 64 + 64 - max from (p * 64)
    by_owner rest true e =
        let own : g.process ≡ p = grind (arith, nat_tests) in
        let low = are.0.low in
        let high = are.0.high in
        let past = are.1 in
        let same : g.process * 64 ≡ p * 64 = ap (λ k. k * 64) own in
        omega (arith, rest)
    by_owner rest false e = let past = are.1 in omega (arith, rest)

-- a process has at most 64
pub tally_few : (hs : List Handle) → IsTable hs → (p : ℕ) → tally (is_owned p) hs ≤ 64
tally_few hs are p = let few = few_from p 0 hs are in omega (arith, few)

none_from : (p from : ℕ) (hs : List Handle) → IsRising from hs → 256 ≤ p → tally (is_owned p) hs ≡ 0
none_from p from [] are ge = refl
none_from p from (g ∷ gs) are ge =
    let small = are.0.process in
    let other : (g.process == p) ≡ false = grind (arith, nat_tests) in
    rw other (omega (arith, none_from p (place_of g.process g.number + 1) gs are.2 ge))

pub tally_owned : (hs : List Handle) → IsTable hs → (p : ℕ) → 256 ≤ p → tally (is_owned p) hs ≡ 0
tally_owned hs are p ge = none_from p 0 hs are ge

short_from : (from : ℕ) (hs : List Handle) → IsRising from hs → from ≤ 16384 → length hs + from ≤ 16384
short_from from [] are le = omega arith
short_from from (g ∷ gs) are le =
    let small = are.0.process in
    let low = are.0.low in
    let high = are.0.high in
    let past = are.1 in
    omega (arith, short_from (place_of g.process g.number + 1) gs are.2 (omega arith))

-- a table has at most 16,384 handles
pub length_few : (hs : List Handle) → IsTable hs → length hs ≤ 16384
length_few hs are = let short = short_from 0 hs are (omega arith) in omega (arith, short)

-- ---- one handle less

absent : (t : Handle → Bool) (hs : List Handle) → tally t hs ≡ 0 → filter (λ h. not (t h)) hs ≡ hs
absent t [] e = refl
absent t (g ∷ gs) e = by_test (absent t gs) (t g) e
  where
    by_test : (tally t gs ≡ 0 → filter (λ h. not (t h)) gs ≡ gs) → (b : Bool) → cond b 1 0 + tally t gs ≡ 0
        → cond (not b) (g ∷ filter (λ h. not (t h)) gs) (filter (λ h. not (t h)) gs) ≡ g ∷ gs
    by_test ih true e = absurd (omega arith)
    by_test ih false e = ap (λ (xs : List Handle). g ∷ xs) (ih (omega arith))

tally_gone : (t q : Handle → Bool) (hs : List Handle) (h : Handle) → tally q hs ≤ 1 → find q hs ≡ Some h
    → cond (t h) 1 0 + tally t (filter (λ g. not (q g)) hs) ≡ tally t hs
tally_gone t q [] h one e = cc
tally_gone t q (g ∷ gs) h one e = by_test (tally_gone t q gs h) (q g) one e
  where
    by_test : (tally q gs ≤ 1 → find q gs ≡ Some h → cond (t h) 1 0 + tally t (filter (λ x. not (q x)) gs) ≡ tally t gs) → (b : Bool)
        → cond b 1 0 + tally q gs ≤ 1 → cond b (Some g) (find q gs) ≡ Some h
        → cond (t h) 1 0 + tally t (cond (not b) (g ∷ filter (λ x. not (q x)) gs) (filter (λ x. not (q x)) gs)) ≡ cond (t g) 1 0 + tally t gs
    by_test ih true one e =
        let same : g ≡ h = cc in
        let rest : filter (λ x. not (q x)) gs ≡ gs = absent q gs (omega arith) in
        rw (rest, same) refl
    by_test ih false one e =
        let more : cond (t h) 1 0 + tally t (filter (λ x. not (q x)) gs) ≡ tally t gs = ih (omega arith) e in
        omega (arith, more)

-- the handle that is closed goes, and no other
pub tally_without : (t : Handle → Bool) (hs : List Handle) (p n : ℕ) (h : Handle) → IsTable hs → find_handle hs p n ≡ Some h
    → cond (t h) 1 0 + tally t (without hs p n) ≡ tally t hs
tally_without t hs p n h are e = tally_gone t (is_at p n) hs h (tally_single hs are p n) e

-- the process's least handle is found by its number
pub least_found : (hs : List Handle) (p : ℕ) (h : Handle) → least_of hs p ≡ Some h → find_handle hs h.process h.number ≡ Some h
least_found [] p h e = cc
least_found (g ∷ gs) p h e = by_owner (least_found gs p h) (g.process == p) refl e
  where
    same_key : (a b : ℕ) → (a == a && b == b) ≡ true
    same_key a b = grind (arith, nat_tests)

    owner : (hs : List Handle) → find (is_owned p) hs ≡ Some h → (h.process == p) ≡ true
    owner [] e = cc
    owner (x ∷ xs) e = by_first (owner xs) (x.process == p) refl e
      where
        by_first : (find (is_owned p) xs ≡ Some h → (h.process == p) ≡ true) → (b : Bool) → (x.process == p) ≡ b
            → cond b (Some x) (find (is_owned p) xs) ≡ Some h → (h.process == p) ≡ true
        by_first ih true is e = let same : x ≡ h = cc in (rw same at is)
        by_first ih false is e = ih e

    by_owner : (least_of gs p ≡ Some h → find_handle gs h.process h.number ≡ Some h) → (b : Bool) → (g.process == p) ≡ b
        → cond b (Some g) (find (is_owned p) gs) ≡ Some h
        → cond (g.process == h.process && g.number == h.number) (Some g) (find (is_at h.process h.number) gs) ≡ Some h
    by_owner ih true is e =
        let same : g ≡ h = cc in
        rw (same, same_key h.process h.number) refl
    by_owner ih false is e =
        let own = owner gs e in
        let other : (g.process == h.process) ≡ false = grind (arith, nat_tests) in
        rw other (ih e)

pub tally_taken : (t : Handle → Bool) (hs : List Handle) (p : ℕ) (h : Handle) → IsTable hs → least_of hs p ≡ Some h
    → cond (t h) 1 0 + tally t (without hs h.process h.number) ≡ tally t hs
tally_taken t hs p h are e = tally_without t hs h.process h.number h are (least_found hs p h e)

-- ---- the laws as one record

pub record CountLaws : Type 0 where
  pub of_entered : (t : Handle → Bool) (h : Handle) (hs : List Handle) → tally t (entered h hs) ≡ cond (t h) 1 0 + tally t hs
  pub of_without : (t : Handle → Bool) (hs : List Handle) (p n : ℕ) (h : Handle) → IsTable hs → find_handle hs p n ≡ Some h
      → cond (t h) 1 0 + tally t (without hs p n) ≡ tally t hs
  pub of_taken : (t : Handle → Bool) (hs : List Handle) (p : ℕ) (h : Handle) → IsTable hs → least_of hs p ≡ Some h
      → cond (t h) 1 0 + tally t (without hs h.process h.number) ≡ tally t hs
  pub of_found : (t : Handle → Bool) (hs : List Handle) (p n : ℕ) (h : Handle) → find_handle hs p n ≡ Some h → t h ≡ true → 0 < tally t hs
  pub of_single : (hs : List Handle) → IsTable hs → (p n : ℕ) → tally (is_at p n) hs ≤ 1
  pub of_few : (hs : List Handle) → IsTable hs → (p : ℕ) → tally (is_owned p) hs ≤ 64
  pub of_owned : (hs : List Handle) → IsTable hs → (p : ℕ) → 256 ≤ p → tally (is_owned p) hs ≡ 0
  pub of_most : (t : Handle → Bool) (hs : List Handle) → IsTable hs → tally t hs ≤ 16384
  pub of_count : (hs : List Handle) (p : ℕ) → count_of hs p ≡ tally (is_owned p) hs

pub count_laws : CountLaws
count_laws = record {
  of_entered = tally_entered;
  of_without = tally_without;
  of_taken = tally_taken;
  of_found = λ t hs p n h e is. tally_found t (is_at p n) hs h e is;
  of_single = tally_single;
  of_few = tally_few;
  of_owned = tally_owned;
  of_most = λ t hs are. (let a = tally_short t hs in let b = length_few hs are in omega arith);
  of_count = λ hs p. count_tally (is_owned p) hs;
}

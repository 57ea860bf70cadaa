-- A process's handles go, one after another.
use Rattle.std.proofs.Common.{◌≡◌, ℕ, ◌+◌, ◌<◌, ◌≤◌, Bool, true, false, cond, List, [], ◌∷◌, length, Option, None, Some, refl, sym, ap, subst, ◌∙◌, arith}
use Rattle.std.specs.Prelude.{◌==◌, ◌&&◌, not, filter, option_map}
use Rattle.std.specs.List.{find}
use Rattle.std.proofs.lemmas.Bool.Decides.{nat_tests}
use Rattle.con_handles.specs.CountLaws.{count_laws}
use Rattle.con_handles.specs.Handles.{is_at, is_owned, without}
use Rattle.con_handles.specs.Words.Handles.{Table, least_of, taken, taken_of}
use Rattle.con_handles.specs.Tables.{IsTable, tally}
use Rattle.con_handles.specs.declared.handle.Handle.{Handle}
use Rattle.con_handles.specs.declared.handle.Object.{Object}
use Rattle.con_screens.specs.Buffers.{Buffers}
use Rattle.con_machine.specs.Words.HandleCalls.{released}
use Rattle.con_machine.specs.Words.Reads.{released_all}

absent : (t : Handle → Bool) (hs : List Handle) → tally t hs ≡ 0 → filter (λ h. not (t h)) hs ≡ hs
absent t [] e = refl
absent t (g ∷ gs) e = by_test (absent t gs) (t g) e
  where
    by_test : (tally t gs ≡ 0 → filter (λ h. not (t h)) gs ≡ gs) → (b : Bool) → cond b 1 0 + tally t gs ≡ 0 → cond (not b) (g ∷ filter (λ h. not (t h)) gs) (filter (λ h. not (t h)) gs) ≡ g ∷ gs
    by_test ih true e = absurd (omega arith)
    by_test ih false e = ap (λ (xs : List Handle). g ∷ xs) (ih (omega arith))

pub record IsSplit (p : ℕ) (hs : List Handle) (h : Handle) : Type 0 where
  pub owned : filter (is_owned p) hs ≡ h ∷ filter (is_owned p) (without hs h.process h.number)
  pub others : filter (λ g. not (is_owned p g)) (without hs h.process h.number) ≡ filter (λ g. not (is_owned p g)) hs
  pub process : h.process ≡ p

pub least_splits : (p : ℕ) (hs : List Handle) (h : Handle) → ((n : ℕ) → tally (is_at p n) hs ≤ 1) → find (is_owned p) hs ≡ Some h → IsSplit p hs h
least_splits p [] h one e = cc
least_splits p (g ∷ gs) h one e = by_owner (least_splits p gs h (λ n. fewer n (is_at p n g) (one n))) (g.process == p) refl e
  where
    fewer : (n : ℕ) (b : Bool) → cond b 1 0 + tally (is_at p n) gs ≤ 1 → tally (is_at p n) gs ≤ 1
    fewer n true le = omega arith
    fewer n false le = omega arith

    itself : (a b : ℕ) → (a == a && b == b) ≡ true
    itself a b = grind (arith, nat_tests)

    here : (g.process == p) ≡ true → g ≡ h → IsSplit p (g ∷ gs) h
    here own same =
        let at : is_at g.process g.number g ≡ true = itself g.process g.number in
        let of : g.process ≡ p = grind (arith, nat_tests) in
        let most : tally (is_at g.process g.number) (g ∷ gs) ≤ 1 = subst (λ k. tally (is_at k g.number) (g ∷ gs) ≤ 1) (sym of) (one g.number) in
        let few : 1 + tally (is_at g.process g.number) gs ≤ 1 = rw at at most in
        let none : tally (is_at g.process g.number) gs ≡ 0 = omega arith in
        let rest : without (g ∷ gs) g.process g.number ≡ gs = rw at (absent (is_at g.process g.number) gs none) in
        subst (IsSplit p (g ∷ gs)) same (record {
          owned = rw (own, rest) refl;
          others = rw (rest, own) refl;
          process = of;
        })

    by_owner : (find (is_owned p) gs ≡ Some h → IsSplit p gs h) → (b : Bool) → (g.process == p) ≡ b → cond b (Some g) (find (is_owned p) gs) ≡ Some h → IsSplit p (g ∷ gs) h
    by_owner rest true own e = here own (let same : g ≡ h = cc in same)
    by_owner rest false own e =
        let ih = rest e in
        let of = ih.process in
        let apart : (g.process == h.process) ≡ false = rw of own in
        record {
          owned = rw (own, apart, own) ih.owned;
          others = rw (apart, own) (ap (λ (xs : List Handle). g ∷ xs) ih.others);
          process = of;
        }

-- ---- the loop

pub record IsTaken (p : ℕ) (hs us : List Handle) (b c : Buffers) : Type 0 where
  pub buffers : released_all c (filter (is_owned p) us) ≡ released_all b (filter (is_owned p) hs)
  pub others : filter (λ g. not (is_owned p g)) us ≡ filter (λ g. not (is_owned p g)) hs
  pub less : length (filter (is_owned p) us) < length (filter (is_owned p) hs)

pub taken_step : (t u : Table) (b c : Buffers) (p : ℕ) (o : Object) → Some o ≡ option_map (λ h. h.object) (least_of t.open_ones p) → u ≡ taken t p → IsTable t.open_ones → c ≡ released o b → IsTaken p t.open_ones u.open_ones b c
taken_step t u b c p o found state table is = by_least (least_of t.open_ones p) refl found
  where
    by_least : (x : Option Handle) → least_of t.open_ones p ≡ x → Some o ≡ option_map (λ h. h.object) x → IsTaken p t.open_ones u.open_ones b c
    by_least None e f = cc
    by_least (Some h) e f =
        let same : o ≡ h.object = cc in
        let split = least_splits p t.open_ones h (λ n. count_laws.of_single t.open_ones table p n) e in
        let left : u.open_ones ≡ without t.open_ones h.process h.number = ap (λ (x : Table). x.open_ones) (state ∙ ap (λ (x : Option Handle). taken_of x t) e) in
        let one : c ≡ released h.object b = is ∙ ap (λ (x : Object). released x b) same in
        record {
          buffers = ap (λ (x : Buffers). released_all x (filter (is_owned p) u.open_ones)) one ∙ ap (λ (hs : List Handle). released_all (released h.object b) (filter (is_owned p) hs)) left ∙ sym (ap (released_all b) split.owned);
          others = ap (filter (λ g. not (is_owned p g))) left ∙ split.others;
          less = rw (left, split.owned) (omega arith);
        }

pub none_taken : (p : ℕ) (hs : List Handle) → None ≡ option_map (λ h. h.object) (least_of hs p) → (filter (is_owned p) hs ≡ []) × (filter (λ g. not (is_owned p g)) hs ≡ hs)
none_taken p [] e = (refl, refl)
none_taken p (g ∷ gs) e = by_owner (none_taken p gs) (g.process == p) e
  where
    by_owner : (None ≡ option_map (λ h. h.object) (least_of gs p) → (filter (is_owned p) gs ≡ []) × (filter (λ g. not (is_owned p g)) gs ≡ gs)) → (b : Bool) → None ≡ option_map (λ h. h.object) (cond b (Some g) (find (is_owned p) gs))
        → (cond b (g ∷ filter (is_owned p) gs) (filter (is_owned p) gs) ≡ []) × (cond (not b) (g ∷ filter (λ g. not (is_owned p g)) gs) (filter (λ g. not (is_owned p g)) gs) ≡ g ∷ gs)
    by_owner ih true e = cc
    by_owner ih false e = ((ih e).0, ap (λ (xs : List Handle). g ∷ xs) (ih e).1)

-- the table after the last handle was taken
pub last_taken : (t u : Table) (p : ℕ) → None ≡ option_map (λ h. h.object) (least_of t.open_ones p) → u ≡ taken t p → u.open_ones ≡ t.open_ones
last_taken t u p none state = ap (λ (x : Table). x.open_ones) (state ∙ by_least (least_of t.open_ones p) none)
  where
    by_least : (x : Option Handle) → None ≡ option_map (λ h. h.object) x → taken_of x t ≡ t
    by_least None e = refl
    by_least (Some h) e = cc

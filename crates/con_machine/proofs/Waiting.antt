-- Whether each attached process waits.
use Rattle.std.proofs.Common.{◌≡◌, ℕ, zero, suc, ◌+◌, ◌-◌, ◌<◌, ◌≤◌, ◌&&◌, ◌||◌, Bool, true, false, cond, not, List, [], ◌∷◌, length, drop, slice_get, refl, sym, ap, ◌∙◌, arith, add-one, nat_lt}
use Rattle.std.proofs.lemmas.Bool.Decides.{nat_tests}
use Rattle.con_procs.proofs.Changes.{drop_past}
use Rattle.con_procs.specs.Procs.{is_attached, is_live, ids_from}
use Rattle.con_procs.specs.Words.Procs.{live_in}
use Rattle.con_procs.specs.declared.proc.Proc.{Proc}
use Rattle.con_readers.specs.Reads.{has_undone}
use Rattle.con_readers.specs.declared.open.Open.{Open}
use Rattle.con_machine.specs.Closing.{all_wait}

one_step : (live : Bool) (reads : List Open) (k : ℕ) (ids : List ℕ) → all_wait reads (cond live (k ∷ ids) ids) ≡ ((not live || has_undone reads k) && all_wait reads ids)
one_step true reads k ids = refl
one_step false reads k ids = refl

-- the process at a place, and those behind it
waits_at : (reads : List Open) (ps : List Proc) (i k : ℕ) → i < length ps
    → all_wait reads (ids_from k (drop i ps)) ≡ ((not (live_in (slice_get ps i)) || has_undone reads k) && all_wait reads (ids_from (k + 1) (drop (suc i) ps)))
unfolding ids_from
waits_at reads [] i k inside = absurd (omega arith)
waits_at reads (p ∷ ps) zero k inside = one_step (is_live p) reads k (ids_from (k + 1) ps)
waits_at reads (p ∷ ps) (suc i) k inside = waits_at reads ps i k (omega arith)

attached_at : (ps : List Proc) (i : ℕ) → is_attached ps (i + 1) ≡ live_in (slice_get ps i)
attached_at ps i =
    let some : nat_lt 0 (i + 1) ≡ true = grind (arith, nat_tests) in
    let before : i + 1 - 1 ≡ i = omega arith in
    rw (some, before) refl

-- one process more
pub waits_more : (reads : List Open) (ps : List Proc) (i : ℕ) → i < length ps
    → all_wait reads (ids_from (i + 1) (drop i ps)) ≡ ((not (is_attached ps (i + 1)) || has_undone reads (i + 1)) && all_wait reads (ids_from (i + 1 + 1) (drop (i + 1) ps)))
waits_more reads ps i inside =
    waits_at reads ps i (i + 1) inside
    ∙ ap (λ b. (not b || has_undone reads (i + 1)) && all_wait reads (ids_from (i + 1 + 1) (drop (suc i) ps))) (sym (attached_at ps i))
    ∙ ap (λ j. (not (is_attached ps (i + 1)) || has_undone reads (i + 1)) && all_wait reads (ids_from (i + 1 + 1) (drop j ps))) (sym (add-one i))

-- none is left
pub waits_end : (reads : List Open) (ps : List Proc) (i k : ℕ) → length ps ≤ i → all_wait reads (ids_from k (drop i ps)) ≡ true
unfolding ids_from
waits_end reads ps i k past = ap (λ (qs : List Proc). all_wait reads (ids_from k qs)) (drop_past ps i past)

-- the first one that does not wait
pub waits_not : (reads : List Open) (ps : List Proc) (i : ℕ) → i < length ps → (not (is_attached ps (i + 1)) || has_undone reads (i + 1)) ≡ false → all_wait reads (ids_from (i + 1) (drop i ps)) ≡ false
waits_not reads ps i inside here = waits_more reads ps i inside ∙ ap (λ b. b && all_wait reads (ids_from (i + 1 + 1) (drop (i + 1) ps))) here

pub waits_on : (reads : List Open) (ps : List Proc) (i : ℕ) → i < length ps → (not (is_attached ps (i + 1)) || has_undone reads (i + 1)) ≡ true
    → all_wait reads (ids_from (i + 1) (drop i ps)) ≡ all_wait reads (ids_from (i + 1 + 1) (drop (i + 1) ps))
waits_on reads ps i inside here = waits_more reads ps i inside ∙ ap (λ b. b && all_wait reads (ids_from (i + 1 + 1) (drop (i + 1) ps))) here

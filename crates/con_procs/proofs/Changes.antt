-- One process of the list changes, or is looked at.
use Rattle.std.proofs.Common.{◌≡◌, ◌<◌, ◌≤◌, ◌-◌, ◌+◌, ℕ, Bool, List, [], ◌∷◌, ◌++◌, zero, suc, true, false, arith, refl, ap, ◌∙◌, sym, length, slice_set, drop, Some, append_assoc, append-nil, add-one}
use Rattle.std.specs.Prelude.{slice_index_or, slice_get, ◌==◌, nat_lt, if◌then◌else◌}
use Rattle.std.proofs.Math.Seq.{drop-cons}
use Rattle.std.proofs.lemmas.Bool.{and_parts}
use Rattle.std.proofs.lemmas.Bool.Decides.{nat_tests}
use Rattle.con_units.specs.Units.{changed_at}
use Rattle.con_procs.specs.declared.proc.Proc.{Proc}
use Rattle.con_procs.specs.Procs.{changed, is_attached, is_live, ids_from, first_pending}
use Rattle.con_procs.specs.Words.Procs.{live_in}

pub set_changed : (f : Proc → Proc) (ps : List Proc) (k : ℕ) (p : Proc) → p ≡ slice_index_or ps k p → slice_set ps k (f p) ≡ changed_at f ps k
set_changed f [] k p e = refl
set_changed f (q ∷ ps) zero p e = ap (λ (r : Proc). f r ∷ ps) e
set_changed f (q ∷ ps) (suc k) p e = ap (λ (rs : List Proc). q ∷ rs) (set_changed f ps k p e)

pub set_is : (f : Proc → Proc) (ps : List Proc) (k : ℕ) (p : Proc) → (k == 0) ≡ false → p ≡ slice_index_or ps (k - 1) p → slice_set ps (k - 1) (f p) ≡ changed f ps k
set_is f ps k p e here = rw e (set_changed f ps (k - 1) p here)

changed_beyond : (f : Proc → Proc) (ps : List Proc) (k : ℕ) → length ps ≤ k → ps ≡ changed_at f ps k
changed_beyond f [] k le = refl
changed_beyond f (q ∷ ps) zero le = absurd (omega arith)
changed_beyond f (q ∷ ps) (suc k) le = ap (λ (rs : List Proc). q ∷ rs) (changed_beyond f ps k (omega arith))

pub changed_past : (f : Proc → Proc) (ps : List Proc) (k : ℕ) → (k == 0) ≡ false → length ps ≤ k - 1 → ps ≡ changed f ps k
changed_past f ps k e le = rw e (changed_beyond f ps (k - 1) le)

pub not_zero : (k : ℕ) → 0 < k → (k == 0) ≡ false
not_zero k h = grind (arith, nat_tests)

positive : (k : ℕ) → nat_lt 0 k ≡ true → (k == 0) ≡ false
positive k h = grind (arith, nat_tests)

pub attached_some : (ps : List Proc) (k : ℕ) → is_attached ps k ≡ true → (k == 0) ≡ false
attached_some ps k h = positive k ((and_parts (nat_lt 0 k) (live_in (slice_get ps (k - 1))) h).0)

pub get_is : (ps : List Proc) (k : ℕ) (p : Proc) → k < length ps → p ≡ slice_index_or ps k p → slice_get ps k ≡ Some p
get_is [] k p lt e = absurd (omega arith)
get_is (q ∷ ps) zero p lt e = ap (λ (r : Proc). Some r) (sym e)
get_is (q ∷ ps) (suc k) p lt e = get_is ps k p (omega arith) e

pub first_at : (ps : List Proc) (k : ℕ) (p : Proc) → (k == 0) ≡ false → k - 1 < length ps → p ≡ slice_index_or ps (k - 1) p → slice_get p.pending 0 ≡ first_pending ps k
first_at ps k p e lt here = rw (e, get_is ps (k - 1) p lt here) refl

drop_at : (ps : List Proc) (i : ℕ) (p : Proc) → i < length ps → p ≡ slice_index_or ps i p → drop i ps ≡ p ∷ drop (i + 1) ps
drop_at ps i p lt here = rw (add-one i) (drop-cons ps i p lt ∙ ap (λ (q : Proc). q ∷ drop (suc i) ps) (sym here))

-- one process more was looked at
pub ids_more : (ps : List Proc) (i : ℕ) (out out' all : List ℕ) (p : Proc) → i < length ps → p ≡ slice_index_or ps i p → out' ≡ (if is_live p then out ++ (i + 1) ∷ [] else out) → out ++ ids_from (i + 1) (drop i ps) ≡ all → out' ++ ids_from (i + 1 + 1) (drop (i + 1) ps) ≡ all
unfolding ids_from
ids_more ps i out out' all p lt here grown h = by_live (is_live p) refl
  where
    by_live : (b : Bool) → is_live p ≡ b → out' ++ ids_from (i + 1 + 1) (drop (i + 1) ps) ≡ all
    by_live true live = let out_is : out' ≡ out ++ (i + 1) ∷ [] = rw live at grown in rw (out_is, append_assoc) (rw (drop_at ps i p lt here, live) at h)
    by_live false live = let out_is : out' ≡ out = rw live at grown in rw out_is (rw (drop_at ps i p lt here, live) at h)

pub drop_past : (ps : List Proc) (i : ℕ) → length ps ≤ i → drop i ps ≡ []
drop_past [] zero le = refl
drop_past [] (suc i) le = refl
drop_past (p ∷ ps) zero le = absurd (omega arith)
drop_past (p ∷ ps) (suc i) le = drop_past ps i (omega arith)

pub ids_end : (ps : List Proc) (i : ℕ) (out all : List ℕ) → length ps ≤ i → out ++ ids_from (i + 1) (drop i ps) ≡ all → out ≡ all
unfolding ids_from
ids_end ps i out all le h = (rw (drop_past ps i le, append-nil) at h)

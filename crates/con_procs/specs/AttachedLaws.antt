-- Who is attached, after an event, a change or an exit.
use Rattle.std.proofs.Common.{◌≡◌, ◌≢◌, ℕ, zero, suc, ◌-◌, ◌<◌, ◌≤◌, Bool, true, false, cond, List, [], ◌∷◌, Some, refl, ap, arith}
use Rattle.std.specs.Prelude.{◌==◌, ◌&&◌, not, map, slice_get, nat_lt}
use Rattle.std.proofs.lemmas.Bool.Decides.{nat_tests}
use Rattle.con_units.specs.Units.{changed_at}
use Rattle.con_procs.specs.declared.proc.Proc.{Proc}
use Rattle.con_procs.specs.Procs.{is_live, is_attached, signalled, reaches, changed, exited}
use Rattle.con_procs.specs.Words.Procs.{live_in, told}

-- a change that leaves a process as attached as it was
abbrev pub KeepsLive : (Proc → Proc) → Type 0
KeepsLive f = (p : Proc) → is_live (f p) ≡ is_live p

live_mapped : (f : Proc → Proc) → KeepsLive f → (ps : List Proc) (i : ℕ) → live_in (slice_get (map f ps) i) ≡ live_in (slice_get ps i)
live_mapped f keeps [] i = refl
live_mapped f keeps (p ∷ ps) zero = keeps p
live_mapped f keeps (p ∷ ps) (suc i) = live_mapped f keeps ps i

told_keeps : (event group : ℕ) → KeepsLive (told event group)
told_keeps event group p = by_test (reaches event group p) _ refl
  where
    by_test : (b : Bool) (q : Proc) → is_live q ≡ is_live p → is_live (cond b q p) ≡ is_live p
    by_test true q same = same
    by_test false q same = refl

pub attached_signalled : (ps : List Proc) (event group k : ℕ) → is_attached (signalled ps event group) k ≡ is_attached ps k
attached_signalled ps event group k = ap (λ b. nat_lt 0 k && b) (live_mapped (told event group) (told_keeps event group) ps (k - 1))

live_changed_at : (f : Proc → Proc) → KeepsLive f → (ps : List Proc) (k i : ℕ) → live_in (slice_get (changed_at f ps k) i) ≡ live_in (slice_get ps i)
live_changed_at f keeps [] k i = refl
live_changed_at f keeps (p ∷ ps) zero zero = keeps p
live_changed_at f keeps (p ∷ ps) zero (suc i) = refl
live_changed_at f keeps (p ∷ ps) (suc k) zero = refl
live_changed_at f keeps (p ∷ ps) (suc k) (suc i) = live_changed_at f keeps ps k i

pub attached_changed : (f : Proc → Proc) → KeepsLive f → (ps : List Proc) (k j : ℕ) → is_attached (changed f ps k) j ≡ is_attached ps j
attached_changed f keeps ps k j = by_none (k == 0)
  where
    by_none : (b : Bool) → is_attached (cond b ps (changed_at f ps (k - 1))) j ≡ is_attached ps j
    by_none true = refl
    by_none false = ap (λ b. nat_lt 0 j && b) (live_changed_at f keeps ps (k - 1) (j - 1))

live_other : (f : Proc → Proc) (ps : List Proc) (k i : ℕ) → k ≢ i → live_in (slice_get (changed_at f ps k) i) ≡ live_in (slice_get ps i)
live_other f [] k i ne = refl
live_other f (p ∷ ps) zero zero ne = absurd (ne refl)
live_other f (p ∷ ps) zero (suc i) ne = refl
live_other f (p ∷ ps) (suc k) zero ne = refl
live_other f (p ∷ ps) (suc k) (suc i) ne = live_other f ps k i (λ e. ne (ap suc e))

live_ended : (status : ℕ) (ps : List Proc) (k : ℕ) → live_in (slice_get (changed_at (λ p. record p { ended = Some status }) ps k) k) ≡ false
live_ended status [] k = refl
live_ended status (p ∷ ps) zero = refl
live_ended status (p ∷ ps) (suc k) = live_ended status ps k

exited_by : (status : ℕ) (ps : List Proc) (none some same : Bool) (a b : ℕ) → (same ≡ true → a ≡ b) → (none ≡ false → some ≡ true → same ≡ false → a ≢ b)
    → (none ≡ true → some ≡ true → same ≡ false)
    → (some && live_in (slice_get (cond none ps (changed_at (λ p. record p { ended = Some status }) ps a)) b))
    ≡ (not same && (some && live_in (slice_get ps b)))
exited_by status ps none false true a b one other past = refl
exited_by status ps none false false a b one other past = refl
exited_by status ps true true false a b one other past = refl
exited_by status ps true true true a b one other past = absurd (cc_of (past refl refl))
  where
    cc_of : true ≡ false → ⊥
    cc_of e = cc
exited_by status ps false true true a b one other past = rw (one refl) (live_ended status ps b)
exited_by status ps false true false a b one other past = live_other (λ p. record p { ended = Some status }) ps a b (other refl refl refl)

-- the process that exits is attached no more, and each other one as it was
pub attached_exited : (ps : List Proc) (k status j : ℕ) → is_attached (exited ps k status) j ≡ (not (k == j) && is_attached ps j)
attached_exited ps k status j = exited_by status ps (k == 0) (nat_lt 0 j) (k == j) (k - 1) (j - 1) one other past
  where
    one : (k == j) ≡ true → k - 1 ≡ j - 1
    one e = let same : k ≡ j = grind (arith, nat_tests) in omega arith

    other : (k == 0) ≡ false → nat_lt 0 j ≡ true → (k == j) ≡ false → k - 1 ≢ j - 1
    other z l e =
        let some : k ≢ 0 = grind (arith, nat_tests) in
        let more : 0 < j = grind (arith, nat_tests) in
        let ne : k ≢ j = grind (arith, nat_tests) in
        λ same. omega arith

    past : (k == 0) ≡ true → nat_lt 0 j ≡ true → (k == j) ≡ false
    past z l =
        let none : k ≡ 0 = grind (arith, nat_tests) in
        let more : 0 < j = grind (arith, nat_tests) in
        grind (arith, nat_tests)

pub record AttachedLaws : Type 0 where
  pub of_signalled : (ps : List Proc) (event group k : ℕ) → is_attached (signalled ps event group) k ≡ is_attached ps k
  pub of_changed : (f : Proc → Proc) → KeepsLive f → (ps : List Proc) (k j : ℕ) → is_attached (changed f ps k) j ≡ is_attached ps j
  pub of_exited : (ps : List Proc) (k status j : ℕ) → is_attached (exited ps k status) j ≡ (not (k == j) && is_attached ps j)

pub attached_laws : AttachedLaws
attached_laws = record { of_signalled = attached_signalled; of_changed = attached_changed; of_exited = attached_exited }

-- Taking units one by one.
use Rattle.std.proofs.Common.{◌≡◌, ◌≢◌, ◌<◌, ◌≤◌, ◌-◌, ◌+◌, ℕ, Bool, List, [], ◌∷◌, ◌++◌, zero, suc, true, false, arith, refl, append_assoc, append-nil, length}
use Rattle.std.proofs.lemmas.Bool.Decides.{nat_tests}
use Rattle.std.specs.Prelude.{◌==◌, if◌then◌else◌}
use Rattle.con_records.specs.declared.record.Record.{Record}
use Rattle.con_records.specs.Queue.{Queue}
use Rattle.con_readers.specs.Wants.{typed_unit, units_of, rest_of}

pub units_of-more : (k u : ℕ) (r : Record) (rs : List Record) → u ≡ typed_unit r → u ≢ 0 → units_of (suc k) (r ∷ rs) ≡ u ∷ units_of k rs
unfolding units_of
units_of-more k u r rs e ne =
    let t : (typed_unit r == 0) ≡ false = (rw (← e) (let s : (u == 0) ≡ false = grind (arith, nat_tests) in s)) in
    rw (t, ← e) refl

pub rest_of-more : (k u : ℕ) (r : Record) (rs : List Record) → u ≡ typed_unit r → u ≢ 0 → rest_of (suc k) (r ∷ rs) ≡ rest_of k rs
unfolding rest_of
rest_of-more k u r rs e ne =
    let t : (typed_unit r == 0) ≡ false = (rw (← e) (let s : (u == 0) ≡ false = grind (arith, nat_tests) in s)) in
    rw t refl

pub units_of-skip : (k : ℕ) (r : Record) (rs : List Record) → typed_unit r ≡ 0 → units_of (suc k) (r ∷ rs) ≡ units_of (suc k) rs
unfolding units_of
units_of-skip k r rs e = rw e refl

pub rest_of-skip : (k : ℕ) (r : Record) (rs : List Record) → typed_unit r ≡ 0 → rest_of (suc k) (r ∷ rs) ≡ rest_of (suc k) rs
unfolding rest_of
rest_of-skip k r rs e = rw e refl

pub units_of-zero : (rs : List Record) → units_of 0 rs ≡ []
unfolding units_of
units_of-zero [] = refl
units_of-zero (r ∷ rs) = refl

pub rest_of-zero : (rs : List Record) → rest_of 0 rs ≡ rs
unfolding rest_of
rest_of-zero [] = refl
rest_of-zero (r ∷ rs) = refl

pub units_of-none : (n : ℕ) → units_of n [] ≡ []
unfolding units_of
units_of-none n = refl

pub rest_of-none : (n : ℕ) → rest_of n [] ≡ []
unfolding rest_of
rest_of-none n = refl

pub units_more : (n len len' u : ℕ) (out out' all : List ℕ) (r : Record) (rs rs' : List Record) → len < n → len' ≡ len + 1 → rs ≡ r ∷ rs' → u ≡ typed_unit r → u ≢ 0 → out' ≡ out ++ u ∷ []
    → out ++ units_of (n - len) rs ≡ all → out' ++ units_of (n - len') rs' ≡ all
units_more n len len' u out out' all r rs rs' lt l1 e eu ne o h =
    let k : n - len ≡ suc (n - len') = omega arith in
    rw (o, append_assoc) (rw (e, k, units_of-more (n - len') u r rs' eu ne) at h)

pub rest_more : (n len len' u : ℕ) (all : List Record) (r : Record) (rs rs' : List Record) → len < n → len' ≡ len + 1 → rs ≡ r ∷ rs' → u ≡ typed_unit r → u ≢ 0
    → rest_of (n - len) rs ≡ all → rest_of (n - len') rs' ≡ all
rest_more n len len' u all r rs rs' lt l1 e eu ne h =
    let k : n - len ≡ suc (n - len') = omega arith in
    (rw (e, k, rest_of-more (n - len') u r rs' eu ne) at h)

pub units_skip : (n len : ℕ) (out all : List ℕ) (r : Record) (rs rs' : List Record) → len < n → rs ≡ r ∷ rs' → typed_unit r ≡ 0 → out ++ units_of (n - len) rs ≡ all → out ++ units_of (n - len) rs' ≡ all
units_skip n len out all r rs rs' lt e eu h =
    let k : n - len ≡ suc (n - len - 1) = omega arith in
    rw k (rw (e, k, units_of-skip (n - len - 1) r rs' eu) at h)

pub rest_skip : (n len : ℕ) (all : List Record) (r : Record) (rs rs' : List Record) → len < n → rs ≡ r ∷ rs' → typed_unit r ≡ 0 → rest_of (n - len) rs ≡ all → rest_of (n - len) rs' ≡ all
rest_skip n len all r rs rs' lt e eu h =
    let k : n - len ≡ suc (n - len - 1) = omega arith in
    rw k (rw (e, k, rest_of-skip (n - len - 1) r rs' eu) at h)

pub units_full : (n len : ℕ) (out all : List ℕ) (rs : List Record) → n ≤ len → out ++ units_of (n - len) rs ≡ all → out ≡ all
units_full n len out all rs le h = let k : n - len ≡ 0 = omega arith in (rw (k, units_of-zero rs, append-nil) at h)

pub rest_full : (n len : ℕ) (all rs : List Record) → n ≤ len → rest_of (n - len) rs ≡ all → rs ≡ all
rest_full n len all rs le h = let k : n - len ≡ 0 = omega arith in (rw (k, rest_of-zero rs) at h)

pub units_end : (n : ℕ) (out all : List ℕ) (rs : List Record) → rs ≡ [] → out ++ units_of n rs ≡ all → out ≡ all
units_end n out all rs e h = (rw (e, units_of-none n, append-nil) at h)

pub rest_end : (n : ℕ) (all rs : List Record) → rs ≡ [] → rest_of n rs ≡ all → [] ≡ all
rest_end n all rs e h = (rw (e, rest_of-none n) at h)

pub queue_is : (q : Queue) (items : List Record) (spare : ℕ) → q.items ≡ items → q.spare ≡ spare → q ≡ record { items = items; spare = spare }
queue_is q items spare a b = rw (← a, ← b) refl

pub none_left : (n : ℕ) (rs : List Record) → units_of (suc n) rs ≡ [] → rest_of (suc n) rs ≡ []
unfolding units_of rest_of
none_left n [] e = refl
none_left n (r ∷ rs) e =
    let P : Bool → Type 0 = λ b. ((if b then units_of (suc n) rs else typed_unit r ∷ units_of n rs) ≡ []) → (if b then rest_of (suc n) rs else rest_of n rs) ≡ [] in
    let both : P (typed_unit r == 0) = elim (typed_unit r == 0) as P [ true ↦ none_left n rs | false ↦ λ h. cc ] in
    both e

pub none_left_of : (n : ℕ) (rs : List Record) → 0 < n → units_of n rs ≡ [] → rest_of n rs ≡ []
none_left_of zero rs h e = absurd (omega arith)
none_left_of (suc n) rs h e = none_left n rs e

pub empty_of : (us : List ℕ) → length us ≡ 0 → us ≡ []
empty_of [] e = refl
empty_of (u ∷ us) e = absurd (omega arith)

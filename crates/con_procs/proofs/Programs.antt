-- The programs of the attached processes.
use Rattle.std.proofs.Common.{◌≡◌, ◌<◌, ◌≤◌, ◌-◌, ◌+◌, ℕ, Bool, List, [], ◌∷◌, ◌++◌, zero, suc, true, false, cond, arith, refl, ap, ◌∙◌, sym, length, take, drop, slice_set, Some, add-one, length-append, append-nil}
use Rattle.std.specs.Prelude.{slice_index_or, slice_get, map, ◌==◌, ◌&&◌, nat_lt}
use Rattle.std.specs.List.{remove}
use Rattle.std.proofs.lemmas.Bool.{and_parts}
use Rattle.std.proofs.lemmas.List.{take_all}
use Rattle.con_procs.proofs.Changes.{drop_past}
use Rattle.con_procs.specs.declared.proc.Proc.{Proc}
use Rattle.con_procs.specs.declared.proc.ProcStart.{ProcStart}
use Rattle.con_procs.specs.Procs.{programs_of, is_live, is_attached, started, reaches}
use Rattle.con_procs.specs.Words.Procs.{live_in, told}

-- a change that leaves who is attached, and its program
pub record KeepsProgram (f : Proc → Proc) : Type 0 where
  pub live : (p : Proc) → is_live (f p) ≡ is_live p
  pub program : (p : Proc) → (f p).program ≡ p.program

same_front : (f : Proc → Proc) → KeepsProgram f → (p : Proc) (ps qs : List Proc) → programs_of ps ≡ programs_of qs → programs_of (f p ∷ ps) ≡ programs_of (p ∷ qs)
same_front f keeps p ps qs e = rw (keeps.live p, keeps.program p, e) refl

same_back : (p : Proc) (ps qs : List Proc) → programs_of ps ≡ programs_of qs → programs_of (p ∷ ps) ≡ programs_of (p ∷ qs)
same_back p ps qs e = rw e refl

pub programs_mapped : (f : Proc → Proc) → KeepsProgram f → (ps : List Proc) → programs_of (map f ps) ≡ programs_of ps
programs_mapped f keeps [] = refl
programs_mapped f keeps (p ∷ ps) = same_front f keeps p (map f ps) ps (programs_mapped f keeps ps)

pub told_keeps : (event group : ℕ) → KeepsProgram (told event group)
told_keeps event group = record { live = λ p. by_live p (reaches event group p) _ refl; program = λ p. by_program p (reaches event group p) _ refl }
  where
    by_live : (p : Proc) (b : Bool) (q : Proc) → is_live q ≡ is_live p → is_live (cond b q p) ≡ is_live p
    by_live p true q same = same
    by_live p false q same = refl

    by_program : (p : Proc) (b : Bool) (q : Proc) → q.program ≡ p.program → (cond b q p).program ≡ p.program
    by_program p true q same = same
    by_program p false q same = refl

pub live_at : (ps : List Proc) (k : ℕ) → is_attached ps k ≡ true → live_in (slice_get ps (k - 1)) ≡ true
live_at ps k h = (and_parts (nat_lt 0 k) (live_in (slice_get ps (k - 1))) h).1

-- an attached process's program has its place
pub rank_within : (ps : List Proc) (k : ℕ) → live_in (slice_get ps k) ≡ true → length (programs_of (take k ps)) < length (programs_of ps)
rank_within [] k live = cc
rank_within (p ∷ ps) zero live = rw live (omega arith)
rank_within (p ∷ ps) (suc k) live = by_live (is_live p) (rank_within ps k live)
  where
    by_live : (b : Bool) → length (programs_of (take k ps)) < length (programs_of ps) → length (cond b (p.program ∷ programs_of (take k ps)) (programs_of (take k ps))) < length (cond b (p.program ∷ programs_of ps) (programs_of ps))
    by_live true ih = omega (arith, ih)
    by_live false ih = ih

-- it goes where the process exits
pub programs_exited : (ps : List Proc) (k status : ℕ) (p : Proc) → live_in (slice_get ps k) ≡ true → p ≡ slice_index_or ps k p
    → remove (programs_of ps) (length (programs_of (take k ps))) ≡ programs_of (slice_set ps k (record p { ended = Some status }))
programs_exited [] k status p live here = cc
programs_exited (q ∷ ps) zero status p live here = rw live refl
programs_exited (q ∷ ps) (suc k) status p live here = by_live (is_live q) (programs_exited ps k status p live here)
  where
    by_live : (b : Bool) → remove (programs_of ps) (length (programs_of (take k ps))) ≡ programs_of (slice_set ps k (record p { ended = Some status }))
        → remove (cond b (q.program ∷ programs_of ps) (programs_of ps)) (length (cond b (q.program ∷ programs_of (take k ps)) (programs_of (take k ps)))) ≡ cond b (q.program ∷ programs_of (slice_set ps k (record p { ended = Some status }))) (programs_of (slice_set ps k (record p { ended = Some status })))
    by_live true ih = ap (λ (xs : List (List ℕ)). q.program ∷ xs) ih
    by_live false ih = ih

programs_next : (ps : List Proc) (p : Proc) → programs_of (ps ++ p ∷ []) ≡ programs_of ps ++ cond (is_live p) (p.program ∷ []) []
programs_next [] p = by_live (is_live p)
  where
    by_live : (b : Bool) → cond b (p.program ∷ []) [] ≡ cond b (p.program ∷ []) []
    by_live b = refl
programs_next (q ∷ ps) p = by_live (is_live q) (programs_next ps p)
  where
    by_live : (b : Bool) → programs_of (ps ++ p ∷ []) ≡ programs_of ps ++ cond (is_live p) (p.program ∷ []) [] → cond b (q.program ∷ programs_of (ps ++ p ∷ [])) (programs_of (ps ++ p ∷ [])) ≡ cond b (q.program ∷ programs_of ps) (programs_of ps) ++ cond (is_live p) (p.program ∷ []) []
    by_live true ih = ap (λ (xs : List (List ℕ)). q.program ∷ xs) ih
    by_live false ih = ih

take_next : (ps : List Proc) (k : ℕ) (p : Proc) → k < length ps → p ≡ slice_index_or ps k p → take (suc k) ps ≡ take k ps ++ p ∷ []
take_next [] k p lt here = absurd (omega arith)
take_next (q ∷ ps) zero p lt here = ap (λ (r : Proc). r ∷ []) (sym here)
take_next (q ∷ ps) (suc k) p lt here = ap (λ (rs : List Proc). q ∷ rs) (take_next ps k p (omega arith) here)

counted : (b : Bool) (at now : ℕ) (x : List ℕ) (xs : List (List ℕ)) → at ≡ length xs → now ≡ at + cond b 1 0 → now ≡ length (xs ++ cond b (x ∷ []) [])
counted true at now x xs is more = let all = length-append xs (x ∷ []) in omega (arith, is, more, all)
counted false at now x xs is more = let all = length-append xs [] in omega (arith, is, more, all)

-- one process more is counted
pub rank_more : (ps : List Proc) (k at now : ℕ) (p : Proc) → k < length ps → p ≡ slice_index_or ps k p → at ≡ length (programs_of (take k ps)) → now ≡ at + cond (is_live p) 1 0 → now ≡ length (programs_of (take (k + 1) ps))
rank_more ps k at now p lt here is more =
    let one = take_next ps k p lt here in
    rw (add-one k, one, programs_next (take k ps) p) (counted (is_live p) at now p.program (programs_of (take k ps)) is more)

-- one process is another with the same program
pub programs_set_to : (ps : List Proc) (k : ℕ) (p q : Proc) → is_live q ≡ is_live p → q.program ≡ p.program → p ≡ slice_index_or ps k p → programs_of (slice_set ps k q) ≡ programs_of ps
programs_set_to [] k p q live program here = refl
programs_set_to (r ∷ ps) zero p q live program here = rw (live, program, here) refl
programs_set_to (r ∷ ps) (suc k) p q live program here = same_back r (slice_set ps k q) ps (programs_set_to ps k p q live program here)

pub programs_all : (f : Proc → Proc) → KeepsProgram f → (old now : List Proc) (i : ℕ) → length old ≤ i → now ≡ map f (take i old) ++ drop i old → programs_of old ≡ programs_of now
programs_all f keeps old now i le is = rw (is, take_all i old le, drop_past old i le, append-nil) (sym (programs_mapped f keeps old))

pub programs_started : (ss : List ProcStart) → map (λ (s : ProcStart). s.program) ss ≡ programs_of (map started ss)
programs_started [] = refl
programs_started (s ∷ ss) = ap (λ (xs : List (List ℕ)). s.program ∷ xs) (programs_started ss)

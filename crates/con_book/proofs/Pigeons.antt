-- Numbers below n that are distinct are at most n.
use Rattle.std.proofs.Common.{◌≡◌, ◌≢◌, ℕ, zero, suc, ◌+◌, ◌<◌, ◌≤◌, cond, eqb, List, [], ◌∷◌, length, sym, refl, ap, ◌∙◌, subst, inl, inr, ⊎_elim, arith, eq-eqb, ne_eqb}
use mathlib.Core.Logic.{dite}
use native.Mathlib.Decide.{ℕ_discrete}
use Rattle.con_book.specs.History.{In}
use Rattle.con_book.specs.Lock.{Distinct}

abbrev without : ℕ → List ℕ → List ℕ
without m [] = []
without m (x ∷ xs) = cond (eqb x m) (without m xs) (x ∷ without m xs)

skips : (m x : ℕ) (xs : List ℕ) → x ≡ m → without m (x ∷ xs) ≡ without m xs
skips m x xs e = ap (λ b. cond b (without m xs) (x ∷ without m xs)) (eq-eqb x m e)

stays : (m x : ℕ) (xs : List ℕ) → x ≢ m → without m (x ∷ xs) ≡ x ∷ without m xs
stays m x xs ne = ap (λ b. cond b (without m xs) (x ∷ without m xs)) (ne_eqb x m ne)

in_without : (m a : ℕ) (xs : List ℕ) → In a (without m xs) → In a xs × (a ≢ m)
in_without m a [] h = absurd h
in_without m a (x ∷ xs) h = dite (ℕ_discrete x m)
    (λ e. let t = in_without m a xs (subst (In a) (skips m x xs e) h) in (inr t.0, t.1))
    (λ ne. ⊎_elim (λ q. (inl q, λ z. ne (sym q ∙ z))) (λ q. let t = in_without m a xs q in (inr t.0, t.1)) (subst (In a) (stays m x xs ne) h))

distinct_without : (m : ℕ) (xs : List ℕ) → Distinct xs → Distinct (without m xs)
distinct_without m [] d = tt
distinct_without m (x ∷ xs) d = dite (ℕ_discrete x m)
    (λ e. subst Distinct (sym (skips m x xs e)) (distinct_without m xs d.1))
    (λ ne. subst Distinct (sym (stays m x xs ne)) ((λ h. d.0 (in_without m x xs h).0), distinct_without m xs d.1))

same_length : (m : ℕ) (xs : List ℕ) → ¬ In m xs → length (without m xs) ≡ length xs
same_length m [] other = refl
same_length m (x ∷ xs) other = ap length (stays m x xs (λ e. other (inl (sym e)))) ∙ ap suc (same_length m xs (λ h. other (inr h)))

one_less : (m : ℕ) (xs : List ℕ) → Distinct xs → length xs ≤ length (without m xs) + 1
one_less m [] d = omega arith
one_less m (x ∷ xs) d = dite (ℕ_discrete x m)
    (λ e. let a = ap length (skips m x xs e) in let b = same_length m xs (λ h. d.0 (subst (λ z. In z xs) (sym e) h)) in omega arith)
    (λ ne. let a = ap length (stays m x xs ne) in let b = one_less m xs d.1 in omega arith)

pub pigeons : (n : ℕ) (xs : List ℕ) → Distinct xs → ((a : ℕ) → In a xs → a < n) → length xs ≤ n
pigeons zero [] d small = omega arith
pigeons zero (x ∷ xs) d small = let l = small x (inl refl) in absurd (omega arith)
pigeons (suc n) xs d small =
    let a = one_less n xs d in
    let b = pigeons n (without n xs) (distinct_without n xs d) (λ c h. let t = in_without n c xs h in let l = small c t.0 in let ne = t.1 in omega arith) in
    omega arith

-- The records with a fate are the pieces of it.
use Rattle.std.proofs.Common.{◌≡◌, ◌+◌, ◌-◌, ◌<◌, ℕ, Bool, true, false, cond, List, [], ◌∷◌, ◌++◌, suc, refl, ap, ◌∙◌, sym, length, filter, append_assoc, Option, Some, nat_lt, true≢false, arith}
use Rattle.std.specs.Prelude.{if◌then◌else◌}
use Rattle.std.proofs.lemmas.Bool.Decides.{nat_tests}
use Rattle.std.proofs.lemmas.List.Elements.{filter-append}
use Rattle.con_readers.specs.Pieces.{joined}
use Rattle.con_records.specs.declared.record.Record.{Record}
use Rattle.con_laws.specs.Fates.{Taker, Piece, is_taker}
use Rattle.con_laws.specs.Walks.{fate_in, is_fate, records_with}
use Rattle.con_laws.proofs.Conserved.{joined-append}

-- what was done for one taker
unfoldable pub log : Taker → List Piece → List Piece
log t ps = filter (λ p. is_taker t p.0.taker) ps

pub log_none : (t : Taker) → log t [] ≡ []
unfolding log
log_none t = refl

pub none_or : (t : Taker) (b : Bool) (ps qs : List Piece) → log t ps ≡ [] → log t qs ≡ [] → log t (if b then ps else qs) ≡ []
none_or t true ps qs h g = h
none_or t false ps qs h g = g

pub log-append : (t : Taker) (ps qs : List Piece) → log t (ps ++ qs) ≡ log t ps ++ log t qs
unfolding log
log-append t ps qs = filter-append (λ p. is_taker t p.0.taker) ps qs

-- what it took
unfoldable pub taken : Taker → List Piece → List Record
taken t ps = joined (log t ps)

pub taken-append : (t : Taker) (ps qs : List Piece) → taken t (ps ++ qs) ≡ taken t ps ++ taken t qs
unfolding taken
taken-append t ps qs = ap (λ (xs : List Piece). joined xs) (log-append t ps qs) ∙ joined-append (log t ps) (log t qs)

-- numbers that are counted from elsewhere
with_same : (f g : ℕ → Option Taker) (t : Taker) (k j : ℕ) (xs : List Record) → ((i : ℕ) → f (k + i) ≡ g (j + i)) → records_with f t k xs ≡ records_with g t j xs
with_same f g t k j [] same = refl
with_same f g t k j (x ∷ xs) same =
    let here : f k ≡ g j = (let a : k + 0 ≡ k = omega arith in let b : j + 0 ≡ j = omega arith in ap f (sym a) ∙ same 0 ∙ ap g b) in
    let rest : records_with f t (suc k) xs ≡ records_with g t (suc j) xs = with_same f g t (suc k) (suc j) xs (λ i. (let a : suc k + i ≡ k + suc i = omega arith in let b : suc j + i ≡ j + suc i = omega arith in ap f a ∙ same (suc i) ∙ ap g (sym b))) in
    ap (λ (o : Option Taker). cond (is_fate t o) (x ∷ records_with f t (suc k) xs) (records_with f t (suc k) xs)) here ∙ ap (λ (rs : List Record). cond (is_fate t (g j)) (x ∷ rs) rs) rest

nothing_before : (b : Bool) (x y : List Record) → x ≡ y → x ≡ cond b [] [] ++ y
nothing_before true x y h = h
nothing_before false x y h = h

with_front : (f : ℕ → Option Taker) (t : Taker) (u : Taker) (k : ℕ) (xs ys : List Record) → ((i : ℕ) → i < length xs → f (k + i) ≡ Some u) → records_with f t k (xs ++ ys) ≡ cond (is_taker t u) xs [] ++ records_with f t (k + length xs) ys
with_front f t u k [] ys same = (let back : k ≡ k + 0 = omega arith in nothing_before (is_taker t u) (records_with f t k ys) (records_with f t (k + 0) ys) (ap (λ (n : ℕ). records_with f t n ys) back))
with_front f t u k (x ∷ xs) ys same =
    let here : f k ≡ Some u = (let a : k + 0 ≡ k = omega arith in ap f (sym a) ∙ same 0 (omega arith)) in
    let rest : records_with f t (suc k) (xs ++ ys) ≡ cond (is_taker t u) xs [] ++ records_with f t (suc k + length xs) ys = with_front f t u (suc k) xs ys (λ i lt. (let a : suc k + i ≡ k + suc i = omega arith in ap f a ∙ same (suc i) (omega (arith, lt)))) in
    let on : suc k + length xs ≡ k + suc (length xs) = omega arith in
    ap (λ (o : Option Taker). cond (is_fate t o) (x ∷ records_with f t (suc k) (xs ++ ys)) (records_with f t (suc k) (xs ++ ys))) here
    ∙ one (is_taker t u) (records_with f t (suc k) (xs ++ ys)) (records_with f t (suc k + length xs) ys) rest ∙ ap (λ (n : ℕ). cond (is_taker t u) (x ∷ xs) [] ++ records_with f t n ys) on
  where
    one : (b : Bool) (more last : List Record) → more ≡ cond b xs [] ++ last → cond b (x ∷ more) more ≡ cond b (x ∷ xs) [] ++ last
    one true more last h = ap (λ (rs : List Record). x ∷ rs) h
    one false more last h = h

with_none : (t : Taker) (k : ℕ) (xs : List Record) → records_with (fate_in []) t k xs ≡ []
with_none t k [] = refl
with_none t k (x ∷ xs) = with_none t (suc k) xs

here_by : (p : Piece) (ps : List Piece) (i : ℕ) (b : Bool) → nat_lt i (length p.1) ≡ b → b ≡ true → fate_in (p ∷ ps) i ≡ Some p.0.taker
here_by p ps i true e h = rw e refl
here_by p ps i false e h = absurd (true≢false (sym h))

later_by : (p : Piece) (ps : List Piece) (i : ℕ) (b : Bool) → nat_lt i (length p.1) ≡ b → b ≡ false → fate_in (p ∷ ps) i ≡ fate_in ps (i - length p.1)
later_by p ps i false e h = rw e refl
later_by p ps i true e h = absurd (true≢false h)

inside : (p : Piece) (ps : List Piece) (i : ℕ) → i < length p.1 → fate_in (p ∷ ps) (0 + i) ≡ Some p.0.taker
inside p ps i lt =
    let at : 0 + i ≡ i = omega arith in
    let e : nat_lt i (length p.1) ≡ true = grind (arith, nat_tests) in
    ap (fate_in (p ∷ ps)) at ∙ here_by p ps i (nat_lt i (length p.1)) refl e

past : (p : Piece) (ps : List Piece) (i : ℕ) → fate_in (p ∷ ps) (length p.1 + i) ≡ fate_in ps (0 + i)
past p ps i =
    let e : nat_lt (length p.1 + i) (length p.1) ≡ false = grind (arith, nat_tests) in
    let d : length p.1 + i - length p.1 ≡ 0 + i = omega arith in
    later_by p ps (length p.1 + i) (nat_lt (length p.1 + i) (length p.1)) refl e ∙ ap (fate_in ps) d

one_piece : (p : Piece) (ps : List Piece) (b : Bool) → cond b p.1 [] ++ joined ps ≡ joined (cond b (p ∷ ps) ps)
unfolding joined
one_piece p ps true = refl
one_piece p ps false = refl

pub fated_taken : (t : Taker) (ps : List Piece) (rest : List Record) → records_with (fate_in ps) t 0 (joined ps ++ rest) ≡ taken t ps
unfolding taken log joined
fated_taken t [] rest = with_none t 0 rest
fated_taken t (p ∷ ps) rest =
    let from : 0 + length p.1 ≡ length p.1 = omega arith in
    ap (λ (rs : List Record). records_with (fate_in (p ∷ ps)) t 0 rs) (append_assoc p.1 (joined ps) rest)
    ∙ with_front (fate_in (p ∷ ps)) t p.0.taker 0 p.1 (joined ps ++ rest) (inside p ps)
    ∙ ap (λ (rs : List Record). cond (is_taker t p.0.taker) p.1 [] ++ rs) (ap (λ (n : ℕ). records_with (fate_in (p ∷ ps)) t n (joined ps ++ rest)) from ∙ with_same (fate_in (p ∷ ps)) (fate_in ps) t (length p.1) 0 (joined ps ++ rest) (past p ps) ∙ fated_taken t ps rest)
    ∙ one_piece p (filter (λ q. is_taker t q.0.taker) ps) (is_taker t p.0.taker)

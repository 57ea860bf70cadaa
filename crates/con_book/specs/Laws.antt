-- Laws for the crates above: histories one after another, beginnings of one list, and actors without a pass.
use Rattle.std.proofs.Common.{◌≡◌, ℕ, ◌+◌, ◌<◌, Bool, true, false, ◌&&◌, ◌||◌, eqb, cond, List, [], ◌∷◌, ◌++◌, length, All, ◌⊎◌, inl, inr, ⊎_elim, arith, refl, sym, ap, ◌∙◌, ne_eqb, append_assoc, append-nil, add-zero}
use Rattle.std.proofs.lemmas.List.Elements.{All-head, All-tail}
use Rattle.con_book.specs.History.{StartsWith, after, own, is_legal, is_among}
use Rattle.con_book.specs.Counted.{counting}
use Rattle.con_book.specs.Turn.{has_pass}
use Rattle.con_book.specs.declared.history.Logged.{Logged}
use Rattle.con_book.specs.declared.room.Counted.{Counted}
use Rattle.con_book.specs.declared.view.PassView.{PassView}

-- an actor above all that were given a pass has none

both_false : (a b : Bool) → a ≡ false → b ≡ false → (a || b) ≡ false
both_false true b p q = p
both_false false b p q = q

pub is_among-above : (actor : ℕ) (xs : List ℕ) → All (λ a. a < actor) xs → is_among actor xs ≡ false
is_among-above actor [] below = refl
is_among-above actor (x ∷ xs) below =
    let first : x < actor = All-head (λ a. a < actor) x xs below in
    both_false (eqb actor x) (is_among actor xs) (ne_eqb actor x (λ same. let e : actor ≡ x = same in absurd (omega arith)))
    (is_among-above actor xs (All-tail (λ a. a < actor) x xs below))

pub has_pass-above : {S E : Type 0} (actor : ℕ) (v : PassView S E) → 0 < actor → All (λ a. a < actor) v.made → has_pass actor v ≡ false
has_pass-above actor v some below =
    both_false (eqb actor 0) (is_among actor v.made) (ne_eqb actor 0 (λ same. let e : actor ≡ 0 = same in absurd (omega arith)))
    (is_among-above actor v.made below)

-- two histories, one after the other

module _ {E : Type 0} where
  pub own-append : (a : ℕ) (xs ys : List (Logged E)) → own a (xs ++ ys) ≡ own a xs ++ own a ys
  own-append a [] ys = refl
  own-append a (x ∷ xs) ys =
      elim (eqb x.actor a) as (λ b. cond b (x.event ∷ own a (xs ++ ys)) (own a (xs ++ ys)) ≡ cond b (x.event ∷ own a xs) (own a xs) ++ own a ys)
      [ true ↦ ap (λ l. x.event ∷ l) (own-append a xs ys) | false ↦ own-append a xs ys ]

module _ {S E : Type 0} (next : S → ℕ → E → S) where
  pub after-append : (s : S) (xs ys : List (Logged E)) → after next s (xs ++ ys) ≡ after next (after next s xs) ys
  after-append s [] ys = refl
  after-append s (x ∷ xs) ys = after-append (next s x.actor x.event) xs ys

and_assoc : (a b c : Bool) → (a && (b && c)) ≡ ((a && b) && c)
and_assoc true b c = refl
and_assoc false b c = refl

module _ {S E : Type 0} (next : S → ℕ → E → S) (is_ready : S → ℕ → E → Bool) where
  pub is_legal-append : (s : S) (xs ys : List (Logged E)) → is_legal next is_ready s (xs ++ ys)
      ≡ (is_legal next is_ready s xs && is_legal next is_ready (after next s xs) ys)
  is_legal-append s [] ys = refl
  is_legal-append s (x ∷ xs) ys =
      ap (λ (b : Bool). is_ready s x.actor x.event && b) (is_legal-append (next s x.actor x.event) xs ys)
      ∙ and_assoc (is_ready s x.actor x.event) (is_legal next is_ready (next s x.actor x.event) xs)
      (is_legal next is_ready (after next (next s x.actor x.event) xs) ys)

-- beginnings of one list

module _ {A : Type 0} where
  pub begins_itself : (xs : List A) → StartsWith xs xs
  begins_itself xs = ([], sym (append-nil xs))

  pub begins_further : (zs ys xs : List A) → StartsWith zs ys → StartsWith ys xs → StartsWith zs xs
  begins_further zs ys xs p q = (q.0 ++ p.0, p.1 ∙ (ap (λ (l : List A). l ++ p.0) q.1 ∙ append_assoc xs q.0 p.0))

  one_begins : (xs ys r t : List A) → xs ++ r ≡ ys ++ t → StartsWith xs ys ⊎ StartsWith ys xs
  one_begins [] ys r t e = inr (ys, refl)
  one_begins (x ∷ xs) [] r t e = inl (x ∷ xs, refl)
  one_begins (x ∷ xs) (y ∷ ys) r t e =
      let same : x ≡ y = cc in
      let rest : xs ++ r ≡ ys ++ t = cc in
      ⊎_elim
      (λ p. inl (p.0, λ i. same i ∷ p.1 i))
      (λ p. inr (p.0, λ i. sym same i ∷ p.1 i))
      (one_begins xs ys r t rest)

  -- of two beginnings of one list, one begins the other
  pub begin_each_other : (zs xs ys : List A) → StartsWith zs xs → StartsWith zs ys → StartsWith xs ys ⊎ StartsWith ys xs
  begin_each_other zs xs ys p q = one_begins xs ys p.0 q.0 (sym p.1 ∙ q.1)

-- a machine that counts its events

module _ {S E : Type 0} (next : S → ℕ → E → S) (is_ready : S → ℕ → E → Bool) where
  pub after-counting : (s : Counted S) (xs : List (Logged E)) → after (counting next) s xs
      ≡ record { state = after next s.state xs; entered = s.entered + length xs }
  after-counting s [] = ap (λ (n : ℕ). record { state = s.state; entered = n }) (sym (add-zero s.entered))
  after-counting s (x ∷ xs) = after-counting (counting next s x.actor x.event) xs
      ∙ ap (λ (n : ℕ). record { state = after next (next s.state x.actor x.event) xs; entered = n }) (omega arith)

  pub is_legal-counting : (s : Counted S) (xs : List (Logged E)) → is_legal (counting next) (λ c. is_ready c.state) s xs ≡ is_legal next is_ready s.state xs
  is_legal-counting s [] = refl
  is_legal-counting s (x ∷ xs) = ap (λ (b : Bool). is_ready s.state x.actor x.event && b) (is_legal-counting (counting next s x.actor x.event) xs)

-- The views of a table after one of them has changed.
use Rattle.std.proofs.Common.{◌≡◌, ◌≢◌, ℕ, zero, suc, ◌+◌, ◌<◌, ◌≤◌, List, [], ◌∷◌, ◌++◌, length, set, ◌⊎◌, inl, inr, sym, refl, ap, ◌∙◌, subst, ⊎_elim, arith}
use mathlib.Core.Option.{some, some-injective, some-ne-none}
use mathlib.Core.Logic.{dite}
use native.Mathlib.Decide.{ℕ_discrete}
use lib.ListN.{get_elem?}
use Rattle.atomic_table.proofs.Lists.{at_set, set_else, set_here}
use Rattle.con_book.specs.Lock.{HasTicket, Apart, SomeDue, total}
use Rattle.con_book.specs.declared.view.PassView.{PassView}
use Rattle.con_book.specs.declared.view.Stage.TheVariants.{Due}

module _ {A : Type 0} where
  pub at_below : (l : List A) (i : ℕ) (v : A) → get_elem? l i ≡ some v → i < length l
  at_below [] i v e = absurd (some-ne-none v (sym e))
  at_below (x ∷ xs) zero v e = omega arith
  at_below (x ∷ xs) (suc i) v e = let p = at_below xs i v e in omega arith

  pub total_set : (f : A → ℕ) (l : List A) (i : ℕ) (v w : A) → get_elem? l i ≡ some v → total f (set l i w) + f v ≡ total f l + f w
  total_set f [] i v w e = absurd (some-ne-none v (sym e))
  total_set f (x ∷ xs) zero v w e = let p : f x ≡ f v = ap f (some-injective x v e) in omega arith
  total_set f (x ∷ xs) (suc i) v w e = let p = total_set f xs i v w e in omega arith

  pub total_le : (f g : A → ℕ) (l : List A) → ((j : ℕ) (v : A) → get_elem? l j ≡ some v → f v ≤ g v) → total f l ≤ total g l
  total_le f g [] h = omega arith
  total_le f g (x ∷ xs) h = let a = h 0 x refl in let b = total_le f g xs (λ j v e. h (suc j) v e) in omega arith

  pub stays : (K : ℕ → A → Type 0) (l : List A) (id : ℕ) (w : A) → K id w → ((j : ℕ) (v : A) → j ≢ id → get_elem? l j ≡ some v → K j v) → (j : ℕ) (v : A) → get_elem? (set l id w) j ≡ some v → K j v
  stays K l id w here there j v e = ⊎_elim (λ t. subst (λ (x : ℕ × A). K x.0 x.1) (λ i. (sym t.0 i, t.1 i)) here) (λ t. there j v t.0 t.1) (at_set l id j w v e)

module _ {S E : Type 0} where
  pub apart_set : (l : List (PassView S E)) (id : ℕ) (w : PassView S E) → Apart l
      → ((j : ℕ) (v : PassView S E) (t : ℕ) → j ≢ id → get_elem? l j ≡ some v → HasTicket t v.stage → HasTicket t w.stage → ⊥) → Apart (set l id w)
  apart_set l id w a clash i j v u t p q hv hu =
      ⊎_elim
      (λ x. ⊎_elim
      (λ y. x.0 ∙ sym y.0)
      (λ y. absurd (clash j u t y.0 y.1 hu (subst (λ (z : PassView S E). HasTicket t z.stage) (sym x.1) hv)))
      (at_set l id j w u q))
      (λ x. ⊎_elim
      (λ y. absurd (clash i v t x.0 x.1 hv (subst (λ (z : PassView S E). HasTicket t z.stage) (sym y.1) hu)))
      (λ y. a i j v u t x.1 y.1 hv hu)
      (at_set l id j w u q))
      (at_set l id i w v p)

  pub due_set : (l : List (PassView S E)) (id : ℕ) (v w : PassView S E) → get_elem? l id ≡ some v → ((t : ℕ) → v.stage ≡ Due t → ⊥) → SomeDue l → SomeDue (set l id w)
  due_set l id v w at idle d = (
    d.0,
    d.1,
    d.2,
    set_else l id d.0 w (λ e. idle d.2 (ap (λ (z : PassView S E). z.stage) (some-injective v d.1 (sym at ∙ subst (λ (n : ℕ). get_elem? l n ≡ some d.1) e d.3)) ∙ d.4)) ∙ d.3,
    d.4,
  )

module _ {A : Type 0} where
  pub total_append : (f : A → ℕ) (xs ys : List A) → total f (xs ++ ys) ≡ total f xs + total f ys
  total_append f [] ys = omega arith
  total_append f (x ∷ xs) ys = let p = total_append f xs ys in omega arith

  pub total_one : (f : A → ℕ) (l : List A) (i : ℕ) (v : A) → get_elem? l i ≡ some v → f v ≤ total f l
  total_one f [] i v e = absurd (some-ne-none v (sym e))
  total_one f (x ∷ xs) zero v e = let p : f x ≡ f v = ap f (some-injective x v e) in omega arith
  total_one f (x ∷ xs) (suc i) v e = let p = total_one f xs i v e in omega arith

  pub total_two : (f : A → ℕ) (l : List A) (i j : ℕ) (v w : A) → i ≢ j → get_elem? l i ≡ some v → get_elem? l j ≡ some w → f v + f w ≤ total f l
  total_two f [] i j v w ne p q = absurd (some-ne-none v (sym p))
  total_two f (x ∷ xs) zero zero v w ne p q = absurd (ne refl)
  total_two f (x ∷ xs) zero (suc j) v w ne p q = let a : f x ≡ f v = ap f (some-injective x v p) in let b = total_one f xs j w q in omega arith
  total_two f (x ∷ xs) (suc i) zero v w ne p q = let a : f x ≡ f w = ap f (some-injective x w q) in let b = total_one f xs i v p in omega arith
  total_two f (x ∷ xs) (suc i) (suc j) v w ne p q = let k = total_two f xs i j v w (λ e. ne (ap suc e)) p q in omega arith

  pub at_end : (l : List A) (a : A) (j : ℕ) (b : A) → get_elem? (l ++ a ∷ []) j ≡ some b → (get_elem? l j ≡ some b) ⊎ ((j ≡ length l) × (a ≡ b))
  at_end [] a zero b e = inr (refl, some-injective a b e)
  at_end [] a (suc j) b e = absurd (some-ne-none b (sym e))
  at_end (x ∷ xs) a zero b e = inl e
  at_end (x ∷ xs) a (suc j) b e = ⊎_elim inl (λ t. inr (ap suc t.0, t.1)) (at_end xs a j b e)

module _ {S E : Type 0} where
  pub apart_end : (l : List (PassView S E)) (w : PassView S E) → Apart l → ((t : ℕ) → HasTicket t w.stage → ⊥) → Apart (l ++ w ∷ [])
  apart_end l w a free i j u v t p q hu hv =
      ⊎_elim
      (λ x. ⊎_elim (λ y. a i j u v t x y hu hv) (λ y. absurd (free t (subst (λ (z : PassView S E). HasTicket t z.stage) (sym y.1) hv))) (at_end l w j v q))
      (λ x. absurd (free t (subst (λ (z : PassView S E). HasTicket t z.stage) (sym x.1) hu)))
      (at_end l w i u p)

  -- a view that keeps its stage leaves some view due
  pub due_stays : (l : List (PassView S E)) (id : ℕ) (v w : PassView S E) → get_elem? l id ≡ some v → w.stage ≡ v.stage → SomeDue l → SomeDue (set l id w)
  due_stays l id v w at same d = dite (ℕ_discrete d.0 id)
      (λ e.
      let one : d.1 ≡ v = some-injective d.1 v (sym d.3 ∙ subst (λ (n : ℕ). get_elem? l n ≡ some v) (sym e) at) in
      (id, w, d.2, set_here l id w (at_below l id v at), same ∙ (ap (λ (z : PassView S E). z.stage) (sym one) ∙ d.4)))
      (λ ne. (d.0, d.1, d.2, set_else l id d.0 w ne ∙ d.3, d.4))

-- What a seat knows once it has found its turn.
use Rattle.std.proofs.Common.{◌≡◌, ℕ, ◌+◌, ◌%◌, ◌^◌, List, [], ◌∷◌, true, sym, refl, ap, ◌∙◌, subst, Option, Some, None}
use Rattle.std.specs.Option.{unwrap_or}
use mathlib.Core.Option.{none}
use Rattle.atomic_table.specs.Table.{step, Allows, rest}
use Rattle.con_book.specs.History.{after, own}
use Rattle.con_book.specs.Lock.{Moves, staged, knowing, number, Orderly}
use Rattle.con_book.specs.Plays.{Sat, Finds, Comes, Looks, Serves}
use Rattle.con_book.specs.Held.{Entered, MayPut, HasLeft}
use Rattle.con_book.specs.declared.kept.Kept.{Kept}
use Rattle.con_book.specs.declared.view.PassView.{PassView}
use Rattle.con_book.specs.declared.view.Stage.TheVariants.{Idle, Waiting, Due}
use Rattle.con_book.proofs.Steps.{looks, serves}

abbrev value_at : {A : Type 0} → A → List (ℕ × A) → A
value_at d [] = d
value_at d (c ∷ cs) = c.1

module _ {M S E : Type 0} (state : M → S) (moves : Moves S E) where
  abbrev T : Type 0
  T = Sat M S E

  pub looks_at : (start : S) (slots id : ℕ) (m : T) (v : PassView S E) (t : ℕ) → v.live ≡ true → m ≡ (staged v (Waiting t), [])
      → Allows (Orderly state moves start) slots id m 2 (λ n. n) (Looks state moves (step slots 2 0 0 none) m)
  looks_at start slots id m v t is_live is = subst (λ (z : T). Allows (Orderly state moves start) slots id z 2 (λ n. n) (Looks state moves (step slots 2 0 0 none) z)) (sym is) (looks state moves start slots id v t is_live)

  abbrev pub Found : PassView S E → ℕ → T → Type 0
  Found v t n = (x : Kept M E) × (n ≡ (knowing v x.log.items v.mine (Due t), (0, Some x) ∷ [])) × Finds state moves v x

  pub found : (m n : T) (v : PassView S E) (t r : ℕ) → m ≡ (staged v (Waiting t), []) → r ≡ t % 2 ^ 64 → (r ≡ number m.0.stage % 2 ^ 64 → Comes state moves m n) → Found v t n
  found m n v t r is hit tells = (subst (λ (z : T). r ≡ number z.0.stage % 2 ^ 64 → Comes state moves z n) is tells) hit

  pub holds : (v : PassView S E) (t : ℕ) (n : T) → Found v t n → (x : Option (Kept M E)) × (n.1 ≡ (0, x) ∷ rest n.1)
  holds v t n f = (Some f.0, subst (λ (z : T). z.1 ≡ (0, Some f.0) ∷ rest z.1) (sym f.1) refl)

  pub holds_some : (v : PassView S E) (t : ℕ) (n : T) (got : Option (Kept M E)) → n.1 ≡ (0, got) ∷ rest n.1 → (f : Found v t n) → got ≡ Some f.0
  holds_some v t n got has f = ap (value_at got) (sym has ∙ ap (λ (z : T). z.1) f.1)

  pub enters : (v : PassView S E) (t : ℕ) (n n' : T) (got : Option (Kept M E)) (y : Kept M E) → Found v t n → n.1 ≡ (0, got) ∷ rest n.1 → n' ≡ (n.0, (0, None) ∷ rest n.1) → got ≡ Some y → Entered state moves v y n'
  enters v t n n' got y f has after is =
      let x : Kept M E = f.0 in
      let same : x ≡ y = ap (λ (o : Option (Kept M E)). unwrap_or o x) (sym (holds_some v t n got has f) ∙ is) in
      subst (λ (z : Kept M E). Entered state moves v z n') same
      ((t, after ∙ ap (λ (z : T). (z.0, (0, None) ∷ rest z.1)) f.1), f.2)

  pub puts : (m n : T) (t : ℕ) (x : Kept M E) → m ≡ (staged m.0 (Due t), (0, None) ∷ []) → n ≡ (m.0, (0, Some x) ∷ rest m.1) → n ≡ (staged m.0 (Due t), (0, Some x) ∷ [])
  puts m n t x due after = after ∙ ap (λ (z : T). (z.0, (0, Some x) ∷ rest z.1)) due

  pub serves_at : (start : S) (slots id : ℕ) (n : T) (v : PassView S E) (t : ℕ) (x : Kept M E) → n ≡ (staged v (Due t), (0, Some x) ∷ []) → v.live ≡ true → slots ≡ 1 → MayPut state moves v x
      → Allows (Orderly state moves start) slots id n 2 (λ k. (k + 1) % 2 ^ 64) (Serves (step slots 2 1 0 none) n)
  serves_at start slots id n v t x is is_live one may =
      subst (λ (z : T). Allows (Orderly state moves start) slots id z 2 (λ k. (k + 1) % 2 ^ 64) (Serves (step slots 2 1 0 none) z)) (sym is) (serves state moves start slots id v t x is_live one may)

  abbrev Tells : T → T → Type 0
  Tells n n' = (n'.1 ≡ rest n.1) × ((y : Kept M E) → n.1 ≡ (0, Some y) ∷ rest n.1 → n'.0 ≡ knowing n.0 y.log.items (own n.0.actor y.log.items) Idle)

  pub leaves : (n n' : T) (v : PassView S E) (t : ℕ) (x : Kept M E) → n ≡ (staged v (Due t), (0, Some x) ∷ []) → Tells n n' → HasLeft v x.log.items n'
  leaves n n' v t x is tells = let k = subst (λ (z : T). Tells z n') is tells in λ i. (k.1 x refl i, k.0 i)

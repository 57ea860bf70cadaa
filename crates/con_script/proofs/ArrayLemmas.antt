-- Arrays within limits.
use Rattle.std.proofs.Common.{◌≡◌, ℕ, ◌≤◌, Bool, suc, arith, List, [], ◌∷◌, length, refl, true, false, Some, None, ap, sym, ◌∙◌}
use Rattle.std.specs.Prelude.{if◌then◌else◌, ◌&&◌, nat_le}
use Rattle.std.proofs.lemmas.Bool.Decides.{nat_tests}
use borrow.Author.Tests.{leb-true}
use Rattle.con_events.specs.Session.{is_within}
use Rattle.serde_json.specs.View.{items_view}
use Rattle.serde_json.specs.declared.value.Value.{Value}
use Rattle.con_document.specs.Session.{count, within}

count_is : (vs : List Value) → count (items_view vs) ≡ length vs
count_is [] = refl
count_is (v ∷ vs) = ap suc (count_is vs)

within_is : (low high : ℕ) (vs : List Value) → within low high (items_view vs) ≡ (if is_within low high (length vs) then Some (items_view vs) else None)
within_is low high vs = rw (count_is vs) refl

either : (a b : Bool) → (a ≡ true → b ≡ true → ⊥) → (a && b) ≡ false
either true true h = absurd (h refl refl)
either true false h = refl
either false b h = refl

inside : (low high n : ℕ) → low ≤ n → n ≤ high → is_within low high n ≡ true
inside low high n least most = grind (arith, nat_tests)

outside : (low high n : ℕ) → (low ≤ n → n ≤ high → ⊥) → is_within low high n ≡ false
outside low high n not = either (nat_le low n) (nat_le n high) (λ p q. not (leb-true low n p) (leb-true n high q))

pub kept_within : (low high : ℕ) (vs : List Value) → low ≤ length vs → length vs ≤ high → Some (items_view vs) ≡ within low high (items_view vs)
kept_within low high vs least most = sym (within_is low high vs ∙ rw (inside low high (length vs) least most) refl)

pub lost_within : (low high : ℕ) (vs : List Value) → (low ≤ length vs → length vs ≤ high → ⊥) → None ≡ within low high (items_view vs)
lost_within low high vs not = sym (within_is low high vs ∙ rw (outside low high (length vs) not) refl)

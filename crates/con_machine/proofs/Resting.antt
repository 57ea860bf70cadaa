-- A handle that has no rest gets none.
use Rattle.std.proofs.Common.{◌≡◌, ℕ, Bool, true, false, cond, ◌||◌, List, [], ◌∷◌, ap, refl, sym}
use Rattle.std.specs.List.{list_any}
use Rattle.con_units.specs.Units.{changed_where}
use Rattle.con_machine.specs.State.{is_rest_of, with_rest}
use Rattle.con_machine.specs.Words.State.{has_rest}
use Rattle.con_machine.specs.declared.reads.rest.Rest.{Rest}

none_step : {X : Type 0} (b any : Bool) (x y : X) (xs ys : List X) → (b || any) ≡ false → (any ≡ false → ys ≡ xs) → cond b (y ∷ xs) (x ∷ ys) ≡ x ∷ xs
none_step true any x y xs ys none same = cc
none_step false any x y xs ys none same = ap (λ l. x ∷ l) (same none)

none_changed : {X : Type 0} (p : X → Bool) (f : X → X) (xs : List X) → list_any p xs ≡ false → changed_where p f xs ≡ xs
none_changed p f [] none = refl
none_changed p f (x ∷ xs) none = none_step (p x) (list_any p xs) x (f x) xs (changed_where p f xs) none (none_changed p f xs)

pub no_rest : (units : List ℕ) (rs : List Rest) (p h : ℕ) → has_rest rs p h ≡ false → rs ≡ with_rest units rs p h
no_rest units rs p h none = sym (none_changed (is_rest_of p h) (λ r. record r { units = units }) rs none)

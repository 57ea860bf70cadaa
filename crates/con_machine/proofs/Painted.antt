-- What is known of the view that was painted last, while buffers come and go.
use Rattle.std.proofs.Common.{◌≡◌, ◌≢◌, ℕ, Bool, true, false, cond, List, [], ◌∷◌, zero, suc, set, get_or, map, Option, None, Some, refl, sym, ap, subst, ◌∙◌, arith}
use Rattle.std.specs.Prelude.{◌==◌, ◌||◌, ◌-◌, nat_le, not, is_none}
use Rattle.std.specs.Option.{option_map}
use Rattle.std.proofs.lemmas.Bool.Decides.{nat_tests}
use Rattle.std.proofs.lemmas.List.Quantifiers.{position-Some}
use Rattle.con_units.specs.declared.view.View.{View}
use Rattle.con_handles.specs.declared.handle.Object.{Object}
use Rattle.con_handles.specs.declared.handle.Object.TheVariants as object
use Rattle.con_screens.specs.Buffers.{Buffers, created, free_id, handle_released, handles_of, buffer_at, with_buffer, gone}
use Rattle.con_screens.specs.Words.Buffers.{with_handles}
use Rattle.con_screens.specs.Words.Stamps.{Remembered, remembered, all_remembered}
use Rattle.con_screens.specs.declared.buffer.Buffer.{Buffer}
use Rattle.con_machine.specs.Words.HandleCalls.{released}
use Rattle.con_machine.specs.Sound.{IsPaintedOf, IsPainted, known_without}
use Rattle.con_machine.specs.declared.painting.seen.Seen.{Seen}

-- another place of a list, after one was written
there : (xs : List (Option Buffer)) (i k : ℕ) (o : Option Buffer) → k ≢ i → get_or (map (option_map remembered) (set xs i o)) k None ≡ get_or (map (option_map remembered) xs) k None
there [] i k o ne = refl
there (x ∷ xs) zero zero o ne = absurd (ne refl)
there (x ∷ xs) zero (suc k) o ne = refl
there (x ∷ xs) (suc i) zero o ne = refl
there (x ∷ xs) (suc i) (suc k) o ne = there xs i k o (λ e. ne (ap suc e))

-- what is remembered of a place that has none
none_there : (xs : List (Option Buffer)) (i : ℕ) → is_none (get_or xs i None) ≡ true → get_or (map (option_map remembered) xs) i None ≡ None
none_there [] i e = refl
none_there (None ∷ xs) zero e = refl
none_there (Some b ∷ xs) zero e = cc
none_there (x ∷ xs) (suc i) e = none_there xs i e

pub created_painted : (b c : Buffers) (id : ℕ) (seen : Option Seen) (painted : Option View) → free_id b ≡ Some id → c ≡ created b id → IsPainted (all_remembered b) seen painted → IsPainted (all_remembered c) seen painted
created_painted b c id None painted free is was = tt
created_painted b c id (Some s) painted free is was = subst (λ (x : Buffers). IsPainted (all_remembered x) (Some s) painted) (sym is) (by_place (s.buffer.0 == id) refl)
  where
    by_place : (same : Bool) → (s.buffer.0 == id) ≡ same → IsPaintedOf (get_or (all_remembered (created b id)) s.buffer.0 None) s painted
    by_place true e =
        let here : s.buffer.0 ≡ id = grind (arith, nat_tests) in
        let none : get_or (all_remembered b) id None ≡ None = none_there b.slots id (position-Some is_none b.slots id None free).1 in
        absurd (subst (λ (r : Option Remembered). IsPaintedOf r s painted) (ap (λ k. get_or (all_remembered b) k None) here ∙ none) was)
    by_place false e =
        let ne : s.buffer.0 ≢ id = grind (arith, nat_tests) in
        subst (λ (r : Option Remembered). IsPaintedOf r s painted) (sym (there b.slots id s.buffer.0 _ ne)) was

-- a handle goes, and its buffer may go with it
released_there : (b : Buffers) (id k : ℕ) → (id == 0 || not (k == id)) ≡ true → get_or (all_remembered (handle_released b id)) k None ≡ get_or (all_remembered b) k None
released_there b id k e = by_main (id == 0) refl e
  where
    by_last : (last : Bool) → k ≢ id → get_or (all_remembered (cond last (gone b id) (with_buffer b id (with_handles (handles_of b id - 1))))) k None ≡ get_or (all_remembered b) k None
    by_last true ne = there b.slots id k None ne
    by_last false ne = there b.slots id k (option_map (with_handles (handles_of b id - 1)) (buffer_at b id)) ne

    by_main : (main : Bool) → (id == 0) ≡ main → (main || not (k == id)) ≡ true
        → get_or (all_remembered (cond main b (cond (nat_le (handles_of b id) 1) (gone b id) (with_buffer b id (with_handles (handles_of b id - 1)))))) k None ≡ get_or (all_remembered b) k None
    by_main true m t = refl
    by_main false m t = by_last (nat_le (handles_of b id) 1) (let ne : k ≢ id = grind (arith, nat_tests) in ne)

pub released_painted : (b c : Buffers) (o : Object) (seen : Option Seen) (painted : Option View) → c ≡ released o b → IsPainted (all_remembered b) seen painted → IsPainted (all_remembered c) (known_without o seen) painted
released_painted b c object.Input seen painted is was = subst (λ (x : Buffers). IsPainted (all_remembered x) seen painted) (sym is) was
released_painted b c (object.Output id) None painted is was = tt
released_painted b c (object.Output id) (Some s) painted is was = by_test (id.0 == 0 || not (s.buffer.0 == id.0)) refl
  where
    by_test : (t : Bool) → (id.0 == 0 || not (s.buffer.0 == id.0)) ≡ t → IsPainted (all_remembered c) (cond t (Some s) None) painted
    by_test true e = subst (λ (x : Buffers). IsPainted (all_remembered x) (Some s) painted) (sym is) (subst (λ (r : Option Remembered). IsPaintedOf r s painted) (sym (released_there b id.0 s.buffer.0 e)) was)
    by_test false e = tt

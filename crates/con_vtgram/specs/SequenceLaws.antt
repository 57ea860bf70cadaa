-- Laws of control sequences, for whoever builds their units.
use Rattle.std.proofs.Common.{◌≡◌, ℕ, Bool, true, false, cond, ◌||◌, List, [], ◌∷◌, ◌++◌, Some, None, refl, ap}
use Rattle.std.specs.List.{list_all}
use Rattle.std.proofs.lemmas.Bool.{and_parts}
use Rattle.con_vtgram.specs.Text.{skip_while, front_while, is_empty, is_intermediate, is_parameter_unit, ends_control, csi_is_front, csi_whole, csi_items}

pub skip_all : (p : ℕ → Bool) (xs ys : List ℕ) → list_all p xs ≡ true → skip_while p (xs ++ ys) ≡ skip_while p ys
skip_all p [] ys h = refl
skip_all p (x ∷ xs) ys h = let h' = and_parts (p x) (list_all p xs) h in rw h'.0 (skip_all p xs ys h'.1)

pub front_all : (p : ℕ → Bool) (xs ys : List ℕ) → list_all p xs ≡ true → front_while p (xs ++ ys) ≡ xs ++ front_while p ys
front_all p [] ys h = refl
front_all p (x ∷ xs) ys h = let h' = and_parts (p x) (list_all p xs) h in rw h'.0 (ap (λ zs. x ∷ zs) (front_all p xs ys h'.1))

append_none : (xs : List ℕ) → xs ++ [] ≡ xs
append_none [] = refl
append_none (x ∷ xs) = ap (λ zs. x ∷ zs) (append_none xs)

none_left : (u : ℕ) (b : Bool) → is_empty (cond b [] (u ∷ [])) ≡ b
none_left u true = refl
none_left u false = refl

first_left : (u : ℕ) (b : Bool) → is_empty (skip_while is_intermediate (cond b [] (u ∷ []))) ≡ (b || is_intermediate u)
first_left u true = refl
first_left u false = none_left u (is_intermediate u)

-- ESC [, the units of the first part and one more unit can go on
pub first-is_front : (first : List ℕ) (u : ℕ) → list_all is_parameter_unit first ≡ true
    → csi_is_front (first ++ u ∷ []) ≡ (is_parameter_unit u || is_intermediate u)
first-is_front first u h = rw (skip_all is_parameter_unit first (u ∷ []) h) (first_left u (is_parameter_unit u))

-- ESC [, the units of the first part and a last unit are a whole sequence
pub first-whole : (first : List ℕ) (u : ℕ) → list_all is_parameter_unit first ≡ true → is_parameter_unit u ≡ false → is_intermediate u ≡ false
    → csi_whole (first ++ u ∷ []) ≡ cond (ends_control u) (Some (csi_items first [] u)) None
first-whole first u h a b = rw (skip_all is_parameter_unit first (u ∷ []) h, front_all is_parameter_unit first (u ∷ []) h, a, b, append_none first) refl

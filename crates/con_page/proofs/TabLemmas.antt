-- Tab stops, one column after the other, and where a further one changes nothing.
use mathlib.Core.List.{reverse_aux}
use Rattle.std.proofs.Common.{◌≡◌, ℕ, zero, suc, ◌+◌, ◌-◌, ◌<◌, ◌≤◌, Bool, true, false, cond, List, [], ◌∷◌, ◌++◌, length, get_or, take, drop, reverse, refl, sym, ap, ◌∙◌, arith}
use Rattle.std.proofs.Math.Seq.{drop-cons, take-suc}
use Rattle.std.proofs.Math.ListN.{drop_of_length-le}
use Rattle.std.specs.Prelude.{Option, Some, None, nat_lt, position}
use Rattle.std.specs.List.{position_or_len}
use Rattle.std.proofs.lemmas.Bool.Decides.{nat_tests}
use Rattle.std.specs.Option.{option_map_or}
use Rattle.con_page.specs.Effect.{times, tab_right, tab_left}

abbrev stop_right : ℕ → ℕ → Option ℕ → ℕ
stop_right w x o = option_map_or (λ k. x + 1 + k) o (w - 1)

abbrev stop_left : ℕ → Option ℕ → ℕ
stop_left x o = option_map_or (λ k. x - 1 - k) o 0

settled : (f : ℕ → ℕ) (x i k : ℕ) → f (times i f x) ≡ times i f x → times (k + i) f x ≡ times i f x
settled f x i zero same = let e : 0 + i ≡ i = omega arith in rw e refl
settled f x i (suc k) same = let e : suc k + i ≡ suc (k + i) = omega arith in rw (e, settled f x i k same) same

-- so many steps end where a further one would stay
pub stays_there : (f : ℕ → ℕ) (x at next i n : ℕ) → at ≡ times i f x → next ≡ f at → next ≡ at → i ≤ n → at ≡ times n f x
stays_there f x at next i n at_is next_is same le =
    let e : f (times i f x) ≡ times i f x = rw (← at_is) (sym next_is ∙ same) in
    let n_is : n - i + i ≡ n = omega arith in
    at_is ∙ sym (settled f x i (n - i) e) ∙ ap (λ k. times k f x) n_is

-- ---- to the right

past_by : (w x k n : ℕ) (b : Bool) → nat_lt k n ≡ b → stop_right w x (cond (nat_lt (1 + k) (suc n)) (Some (1 + k)) None) ≡ stop_right w (x + 1) (cond (nat_lt k n) (Some k) None)
past_by w x k n true h = let e : nat_lt (1 + k) (suc n) ≡ true = grind (arith, nat_tests) in rw (e, h) (omega arith)
past_by w x k n false h = let e : nat_lt (1 + k) (suc n) ≡ false = grind (arith, nat_tests) in rw (e, h) refl

first_is : (w x : ℕ) (b : Bool) (bs : List Bool) → b ≡ true → stop_right w x (position (λ on. on) (b ∷ bs)) ≡ x + 1
first_is w x true bs h = let e : nat_lt 0 (suc (length bs)) ≡ true = grind (arith, nat_tests) in rw e (omega arith)
first_is w x false bs h = absurd (cc)

first_on : (w x : ℕ) (b : Bool) (bs : List Bool) → b ≡ false → stop_right w x (position (λ on. on) (b ∷ bs)) ≡ stop_right w (x + 1) (position (λ on. on) bs)
first_on w x true bs h = absurd (cc)
first_on w x false bs h = past_by w x (position_or_len (λ on. on) bs) (length bs) (nat_lt (position_or_len (λ on. on) bs) (length bs)) refl

after : (tabs : List Bool) (x : ℕ) → x + 1 < length tabs → drop (x + 1) tabs ≡ get_or tabs (x + 1) false ∷ drop (x + 1 + 1) tabs
after tabs x inside = let e : suc (x + 1) ≡ x + 1 + 1 = omega arith in drop-cons tabs (x + 1) false inside ∙ ap (λ n. get_or tabs (x + 1) false ∷ drop n tabs) e

pub right_here : (tabs : List Bool) (w x : ℕ) → x + 1 < length tabs → get_or tabs (x + 1) false ≡ true → tab_right tabs w x ≡ x + 1
unfolding tab_right
right_here tabs w x inside h = ap (λ l. stop_right w x (position (λ on. on) l)) (after tabs x inside) ∙ first_is w x _ _ h

pub right_on : (tabs : List Bool) (w x : ℕ) → x + 1 < length tabs → get_or tabs (x + 1) false ≡ false → tab_right tabs w (x + 1) ≡ tab_right tabs w x
unfolding tab_right
right_on tabs w x inside h = sym (ap (λ l. stop_right w x (position (λ on. on) l)) (after tabs x inside) ∙ first_on w x _ _ h)

pub right_none : (tabs : List Bool) (x : ℕ) → x < length tabs → length tabs ≤ x + 1 → tab_right tabs (length tabs) x ≡ x
unfolding tab_right
right_none tabs x inside past = rw (drop_of_length-le tabs {i = x + 1} past) (omega arith)

-- ---- to the left

last_onto : (xs : List Bool) (y : Bool) (r : List Bool) → reverse_aux (xs ++ y ∷ []) r ≡ y ∷ reverse_aux xs r
last_onto [] y r = refl
last_onto (x ∷ xs) y r = last_onto xs y (x ∷ r)

last_first : (tabs : List Bool) (x : ℕ) → x < length tabs → reverse (take (suc x) tabs) ≡ get_or tabs x false ∷ reverse (take x tabs)
last_first tabs x inside = ap (λ l. reverse l) (take-suc tabs x false inside) ∙ last_onto (take x tabs) (get_or tabs x false) []

back_by : (x k n : ℕ) (b : Bool) → nat_lt k n ≡ b → stop_left (suc x) (cond (nat_lt (1 + k) (suc n)) (Some (1 + k)) None) ≡ stop_left x (cond (nat_lt k n) (Some k) None)
back_by x k n true h = let e : nat_lt (1 + k) (suc n) ≡ true = grind (arith, nat_tests) in rw (e, h) (omega arith)
back_by x k n false h = let e : nat_lt (1 + k) (suc n) ≡ false = grind (arith, nat_tests) in rw (e, h) refl

back_is : (x : ℕ) (b : Bool) (bs : List Bool) → b ≡ true → stop_left (suc x) (position (λ on. on) (b ∷ bs)) ≡ x
back_is x true bs h = let e : nat_lt 0 (suc (length bs)) ≡ true = grind (arith, nat_tests) in rw e (omega arith)
back_is x false bs h = absurd (cc)

back_on : (x : ℕ) (b : Bool) (bs : List Bool) → b ≡ false → stop_left (suc x) (position (λ on. on) (b ∷ bs)) ≡ stop_left x (position (λ on. on) bs)
back_on x true bs h = absurd (cc)
back_on x false bs h = back_by x (position_or_len (λ on. on) bs) (length bs) (nat_lt (position_or_len (λ on. on) bs) (length bs)) refl

pub left_none : (tabs : List Bool) → tab_left tabs 0 ≡ 0
unfolding tab_left
left_none tabs = refl

pub left_here : (tabs : List Bool) (x : ℕ) → 0 < x → x ≤ length tabs → get_or tabs (x - 1) false ≡ true → tab_left tabs x ≡ x - 1
unfolding tab_left
left_here tabs zero some inside h = absurd (omega arith)
left_here tabs (suc x) some inside h = let e : suc x - 1 ≡ x = omega arith in
    ap (λ l. stop_left (suc x) (position (λ on. on) l)) (last_first tabs x (omega arith)) ∙ back_is x _ _ (ap (λ n. get_or tabs n false) (sym e) ∙ h) ∙ sym e

pub left_on : (tabs : List Bool) (x : ℕ) → 0 < x → x ≤ length tabs → get_or tabs (x - 1) false ≡ false → tab_left tabs (x - 1) ≡ tab_left tabs x
unfolding tab_left
left_on tabs zero some inside h = absurd (omega arith)
left_on tabs (suc x) some inside h = let e : suc x - 1 ≡ x = omega arith in
    ap (λ n. stop_left n (position (λ on. on) (reverse (take n tabs)))) e
    ∙ sym (ap (λ l. stop_left (suc x) (position (λ on. on) l)) (last_first tabs x (omega arith)) ∙ back_on x _ _ (ap (λ n. get_or tabs n false) (sym e) ∙ h))

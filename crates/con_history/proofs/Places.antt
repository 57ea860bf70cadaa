-- Where histories stand, and what a change at a place does.
use Rattle.std.proofs.Common.{◌≡◌, ℕ, suc, ◌+◌, ◌-◌, ◌<◌, ◌≤◌, Bool, true, false, cond, not, List, [], ◌∷◌, length, get_or, set, Option, Some, None, position, refl, ap, subst, ◌∙◌, arith, nat_lt, nat_eq}
use Rattle.std.specs.List.{position_or_len, starts_with}
use Rattle.std.specs.Prelude.{find}
use Rattle.std.specs.Option.{option_map_or}
use Rattle.std.proofs.lemmas.Bool.{ltb-false}
use Rattle.std.proofs.lemmas.List.Sums.{prefix_len-le-length}
use Rattle.con_units.specs.Words.Units.{same_units}
use Rattle.con_history.specs.Histories.{ProgramLines, changed_in, last_that_begins}
use Rattle.con_history.specs.Words.Histories.{place_of, lines_in}

found_by : (b : Bool) (n k : ℕ) → Some k ≡ cond b (Some n) None → k ≡ n
found_by true n k is = cc
found_by false n k is = cc

none_by : (b : Bool) (n : ℕ) → None ≡ cond b (Some n) None → b ≡ false
none_by true n is = cc
none_by false n is = refl

pub place-within : {X : Type 0} (p : X → Bool) (xs : List X) → position_or_len p xs ≤ length xs
place-within p xs = prefix_len-le-length (λ x. not (p x)) xs

-- an index that was found is the place
pub place-found : {X : Type 0} (p : X → Bool) (xs : List X) (k : ℕ) → Some k ≡ position p xs → k ≡ position_or_len p xs
place-found p xs k is = found_by (nat_lt (position_or_len p xs) (length xs)) (position_or_len p xs) k is

pub place-none : {X : Type 0} (p : X → Bool) (xs : List X) → None ≡ position p xs → length xs ≡ position_or_len p xs
place-none p xs is =
    let past : length xs ≤ position_or_len p xs = ltb-false (position_or_len p xs) (length xs) (none_by (nat_lt (position_or_len p xs) (length xs)) (position_or_len p xs) is) in
    let within = place-within p xs in
    omega arith

abbrev lines_by : Option ProgramLines → List (List ℕ)
lines_by o = option_map_or (λ h. h.lines) o []

lines_step : (b : Bool) (h : ProgramLines) (hs : List ProgramLines) (d : ProgramLines) (n : ℕ) (r : Option ProgramLines) → (n < length hs → (get_or hs n d).lines ≡ lines_by r)
    → cond (not b) (1 + n) 0 < length (h ∷ hs) → (get_or (h ∷ hs) (cond (not b) (1 + n) 0) d).lines ≡ lines_by (cond b (Some h) r)
lines_step true h hs d n r rest within = refl
lines_step false h hs d n r rest within =
    let next : 1 + n ≡ suc n = omega arith in
    ap (λ k. (get_or (h ∷ hs) k d).lines) next ∙ rest (omega arith)

-- the lines at the place are the program's
pub lines-at : (p : List ℕ) (used : List ProgramLines) (d : ProgramLines) → place_of p used < length used → (get_or used (place_of p used) d).lines ≡ lines_in used p
lines-at p [] d within = absurd (omega arith)
lines-at p (h ∷ hs) d within = lines_step (same_units h.program p) h hs d (place_of p hs) (find (λ x. same_units x.program p) hs) (lines-at p hs d) within

none_step : (b : Bool) (h : ProgramLines) (m n : ℕ) (r : Option ProgramLines) → (m ≤ n → lines_by r ≡ []) → suc m ≤ cond (not b) (1 + n) 0 → lines_by (cond b (Some h) r) ≡ []
none_step true h m n r rest past = absurd (omega arith)
none_step false h m n r rest past = rest (omega arith)

-- a program that has no place has no lines
pub lines-none : (p : List ℕ) (used : List ProgramLines) → length used ≤ place_of p used → lines_in used p ≡ []
lines-none p [] past = refl
lines-none p (h ∷ hs) past = none_step (same_units h.program p) h (length hs) (place_of p hs) (find (λ x. same_units x.program p) hs) (lines-none p hs) (omega arith)

changed_step : (b : Bool) (f : ProgramLines → ProgramLines) (h : ProgramLines) (hs : List ProgramLines) (d : ProgramLines) (n : ℕ) (r : List ProgramLines) → (n < length hs → set hs n (f (get_or hs n d)) ≡ r)
    → cond (not b) (1 + n) 0 < length (h ∷ hs) → set (h ∷ hs) (cond (not b) (1 + n) 0) (f (get_or (h ∷ hs) (cond (not b) (1 + n) 0) d)) ≡ cond b (f h ∷ hs) (h ∷ r)
changed_step true f h hs d n r rest within = refl
changed_step false f h hs d n r rest within =
    let next : 1 + n ≡ suc n = omega arith in
    ap (λ k. set (h ∷ hs) k (f (get_or (h ∷ hs) k d))) next ∙ ap (λ l. h ∷ l) (rest (omega arith))

-- a change at the place is a change of the program's history
pub changed-at : (f : ProgramLines → ProgramLines) (p : List ℕ) (used : List ProgramLines) (d : ProgramLines) → place_of p used < length used
    → set used (place_of p used) (f (get_or used (place_of p used) d)) ≡ changed_in f used p
changed-at f p [] d within = absurd (omega arith)
changed-at f p (h ∷ hs) d within = changed_step (same_units h.program p) f h hs d (place_of p hs) (changed_in f hs p) (changed-at f p hs d) within

unchanged_step : (b : Bool) (f : ProgramLines → ProgramLines) (h : ProgramLines) (hs : List ProgramLines) (n : ℕ) (r : List ProgramLines) → (length hs ≤ n → r ≡ hs) → suc (length hs) ≤ cond (not b) (1 + n) 0 → cond b (f h ∷ hs) (h ∷ r) ≡ h ∷ hs
unchanged_step true f h hs n r rest past = absurd (omega arith)
unchanged_step false f h hs n r rest past = ap (λ l. h ∷ l) (rest (omega arith))

-- where there is none, nothing changes
pub changed-none : (f : ProgramLines → ProgramLines) (p : List ℕ) (used : List ProgramLines) → length used ≤ place_of p used → changed_in f used p ≡ used
changed-none f p [] past = refl
changed-none f p (h ∷ hs) past = unchanged_step (same_units h.program p) f h hs (place_of p hs) (changed_in f hs p) (changed-none f p hs) (omega arith)

-- one more place of a search
pub last_that_begins-more : (start : List ℕ) (lines : List (List ℕ)) (low k : ℕ) → low ≤ k
    → last_that_begins start lines low (k + 1 - low) ≡ cond (starts_with nat_eq (get_or lines k []) start) (Some k) (last_that_begins start lines low (k - low))
last_that_begins-more start lines low k order =
    let next : k + 1 - low ≡ suc (k - low) = omega arith in
    let at : low + (k - low) ≡ k = omega arith in
    ap (last_that_begins start lines low) next ∙ ap (λ i. cond (starts_with nat_eq (get_or lines i []) start) (Some i) (last_that_begins start lines low (k - low))) at

-- a history that was written at its place
pub changed-written : (f : ProgramLines → ProgramLines) (p : List ℕ) (used : List ProgramLines) (k : ℕ) (was now : ProgramLines) → k ≡ place_of p used → k < length used
    → was ≡ get_or used k was → now ≡ f was → set used k now ≡ changed_in f used p
changed-written f p used k was now at within read is =
    let here : place_of p used < length used = subst (λ (i : ℕ). i < length used) at within in
    ap (set used k) (is ∙ ap f read) ∙ ap (λ (i : ℕ). set used i (f (get_or used i was))) at ∙ changed-at f p used was here

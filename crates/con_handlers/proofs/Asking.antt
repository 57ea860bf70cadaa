-- One handler more is asked, from the newest down.
use Rattle.std.proofs.Common.{◌≡◌, ◌<◌, ◌≤◌, ◌+◌, ℕ, Bool, List, [], ◌∷◌, zero, suc, true, false, arith, refl, ap, ◌∙◌, sym, length, slice_set, drop, take, Option, Some, None, add-one}
use Rattle.std.specs.Prelude.{slice_index_or, map, nat_lt, unwrap_or}
use Rattle.std.specs.List.{list_all}
use Rattle.std.proofs.Math.Seq.{drop-cons}
use Rattle.std.proofs.lemmas.Bool.{and_parts}
use Rattle.std.proofs.lemmas.Bool.Decides.{nat_tests}
use Rattle.con_handlers.specs.Memory.{Memory}
use Rattle.con_handlers.specs.Words.Memory.{after_event}
use Rattle.con_handlers.specs.Delivery.{newest}
use Rattle.con_handlers.specs.Words.Delivery.{newer_or, remembered, is_known, answers, delivered_by, Delivers}
use Rattle.con_handlers.specs.Answers.{answer}
use Rattle.con_handlers.specs.declared.chain.Delivered.TheVariants as outcome
use Rattle.std.proofs.lemmas.List.{length-map, length-set}

drop_at : {B : Type 0} (xs : List B) (i a : ℕ) (x : B) → a ≡ i + 1 → i < length xs → x ≡ slice_index_or xs i x → drop i xs ≡ x ∷ drop a xs
drop_at {B} xs i a x e lt here = rw (e, add-one i) (drop-cons xs i x lt ∙ ap (λ (q : B). q ∷ drop (suc i) xs) (sym here))

none_at : {B : Type 0} (w : B → Bool) (x : B) (rest : List B) → w x ≡ false → newest (map w rest) ≡ None → newest (map w (x ∷ rest)) ≡ None
none_at w x rest e h = rw (h, e) refl

some_at : {B : Type 0} (w : B → Bool) (x : B) (rest : List B) → w x ≡ true → newest (map w rest) ≡ None → newest (map w (x ∷ rest)) ≡ Some 0
some_at w x rest e h = rw (h, e) refl

-- none of those from i on answers true
pub none_more : {B : Type 0} (w : B → Bool) (xs : List B) (i a : ℕ) (x : B) → a ≡ i + 1 → i < length xs → x ≡ slice_index_or xs i x → newest (map w (drop a xs)) ≡ None → w x ≡ false → newest (map w (drop i xs)) ≡ None
none_more {B} w xs i a x e lt here h no_one = ap (λ (ys : List B). newest (map w ys)) (drop_at xs i a x e lt here) ∙ none_at w x (drop a xs) no_one h

found_past : {B : Type 0} (w : B → Bool) (xs : List B) (i j : ℕ) → newest (map w (drop i xs)) ≡ Some j → newest (map w xs) ≡ Some (i + j)
found_past w xs zero j h = h ∙ ap (λ (n : ℕ). Some n) (let e : j ≡ 0 + j = omega arith in e)
found_past w [] (suc i) j h = cc
found_past w (x ∷ xs) (suc i) j h = ap (newer_or (w x)) (found_past w xs i j h) ∙ ap (λ (n : ℕ). Some n) (let e : i + j + 1 ≡ suc i + j = omega arith in e)

-- the one at i is the newest that answers true
pub found : {B : Type 0} (w : B → Bool) (xs : List B) (i a : ℕ) (x : B) → a ≡ i + 1 → i < length xs → x ≡ slice_index_or xs i x → newest (map w (drop a xs)) ≡ None → w x ≡ true → newest (map w xs) ≡ Some i
found {B} w xs i a x e lt here h one =
    let at : newest (map w (drop i xs)) ≡ Some 0 = ap (λ (ys : List B). newest (map w ys)) (drop_at xs i a x e lt here) ∙ some_at w x (drop a xs) one h in
    found_past w xs i 0 at ∙ ap (λ (n : ℕ). Some n) (let s : i + 0 ≡ i = omega arith in s)

same_before : {B : Type 0} (ys xs : List B) (i : ℕ) (d : B) → take (suc i) ys ≡ take (suc i) xs → slice_index_or ys i d ≡ slice_index_or xs i d
same_before [] [] i d h = refl
same_before [] (x ∷ xs) i d h = cc
same_before (y ∷ ys) [] i d h = cc
same_before (y ∷ ys) (x ∷ xs) zero d h = cc
same_before (y ∷ ys) (x ∷ xs) (suc i) d h = let t : take (suc i) ys ≡ take (suc i) xs = cc in same_before ys xs i d t

-- who is asked is as it was at first
pub same_at : {B : Type 0} (ys xs : List B) (i a : ℕ) (d : B) → a ≡ i + 1 → take a ys ≡ take a xs → d ≡ slice_index_or ys i d → d ≡ slice_index_or xs i d
same_at ys xs i a d e h here = let s : a ≡ suc i = omega arith in here ∙ same_before ys xs i d (rw s at h)

before_set : {B : Type 0} (ys xs : List B) (i : ℕ) (y : B) → take (suc i) ys ≡ take (suc i) xs → take i (slice_set ys i y) ≡ take i xs
before_set [] [] i y h = refl
before_set [] (x ∷ xs) i y h = cc
before_set (z ∷ ys) [] i y h = cc
before_set (z ∷ ys) (x ∷ xs) zero y h = refl
before_set (z ∷ ys) (x ∷ xs) (suc i) y h = let t : take (suc i) ys ≡ take (suc i) xs = cc in let s : z ≡ x = cc in let r = before_set ys xs i y t in cc

pub still_before : {B : Type 0} (ys xs : List B) (i a : ℕ) (y : B) → a ≡ i + 1 → take a ys ≡ take a xs → take i (slice_set ys i y) ≡ take i xs
still_before ys xs i a y e h = let s : a ≡ suc i = omega arith in before_set ys xs i y (rw s at h)

remembered_set : {B : Type 0} (event : ℕ) (m : B → Memory) (xs ys : List B) (i : ℕ) (y y' : B) → i < length xs → y ≡ slice_index_or ys i y → m y' ≡ after_event event (m y) → map m ys ≡ remembered event (suc i) (map m xs) → map m (slice_set ys i y') ≡ remembered event i (map m xs)
remembered_set event m [] ys i y y' lt here e h = absurd (omega arith)
remembered_set event m (x ∷ xs) [] i y y' lt here e h = cc
remembered_set event m (x ∷ xs) (z ∷ ys) zero y y' lt here e h =
    let s : m z ≡ m x = cc in
    let t : map m ys ≡ remembered event zero (map m xs) = cc in
    let n : m y' ≡ after_event event (m x) = e ∙ ap (λ (b : _). after_event event (m b)) here ∙ ap (after_event event) s in
    cc
remembered_set event m (x ∷ xs) (z ∷ ys) (suc i) y y' lt here e h =
    let s : m z ≡ m x = cc in
    let t : map m ys ≡ remembered event (suc i) (map m xs) = cc in
    let r = remembered_set event m xs ys i y y' (omega arith) here e t in
    cc

pub remembered_more : {B : Type 0} (event : ℕ) (m : B → Memory) (xs ys : List B) (i a : ℕ) (y y' : B) → a ≡ i + 1 → i < length xs → y ≡ slice_index_or ys i y → m y' ≡ after_event event (m y) → map m ys ≡ remembered event a (map m xs) → map m (slice_set ys i y') ≡ remembered event i (map m xs)
remembered_more event m xs ys i a y y' e lt here after h = let s : a ≡ suc i = omega arith in remembered_set event m xs ys i y y' lt here after (rw s at h)

pub remembered_all : (event : ℕ) (ms : List Memory) → ms ≡ remembered event (length ms) ms
remembered_all event [] = refl
remembered_all event (m ∷ ms) = ap (λ (ns : List Memory). m ∷ ns) (remembered_all event ms)

pub get_map : {B : Type 0} (m : B → Memory) (xs : List B) (i : ℕ) (x : B) → x ≡ slice_index_or xs i x → m x ≡ slice_index_or (map m xs) i (m x)
get_map m [] i x e = refl
get_map m (z ∷ xs) zero x e = ap m e
get_map m (z ∷ xs) (suc i) x e = get_map m xs i x e

pub known_at : (ms : List Memory) (i : ℕ) (n : Memory) → is_known ms ≡ true → i < length ms → n ≡ slice_index_or ms i n → 1 ≤ n.kind
known_at [] i n h lt e = absurd (omega arith)
known_at (m ∷ ms) zero n h lt e =
    let p = and_parts (nat_lt 0 m.kind) (list_all (λ (k : Memory). nat_lt 0 k.kind) ms) h in
    let q : nat_lt 0 n.kind ≡ true = rw e p.0 in
    grind (arith, nat_tests)
known_at (m ∷ ms) (suc i) n h lt e =
    let p = and_parts (nat_lt 0 m.kind) (list_all (λ (k : Memory). nat_lt 0 k.kind) ms) h in
    known_at ms i n p.1 (omega arith) e

drop_all : {B : Type 0} (xs : List B) → drop (length xs) xs ≡ []
drop_all [] = refl
drop_all (x ∷ xs) = drop_all xs

get_own : {B : Type 0} (ys : List B) (i : ℕ) (d : B) → i < length ys → slice_index_or ys i d ≡ slice_index_or ys i (slice_index_or ys i d)
get_own [] i d lt = absurd (omega arith)
get_own (y ∷ ys) zero d lt = refl
get_own (y ∷ ys) (suc i) d lt = get_own ys i d (omega arith)

pub answers_to : ℕ → Memory → Bool
answers_to event m = answer m.kind m.asked event

answers_are : (event : ℕ) (ms : List Memory) → answers event ms ≡ map (answers_to event) ms
unfolding answers_to
answers_are event ms = refl

-- those from a on were asked, and none answered true
pub record Asked {B : Type 0} (w : B → Bool) (m : B → Memory) (event : ℕ) (xs ys : List B) (a : ℕ) : Type 0 where
  pub before : take a ys ≡ take a xs
  pub none : newest (map w (drop a xs)) ≡ None
  pub memory : map m ys ≡ remembered event a (map m xs)
  pub known : is_known (map m xs) ≡ true → newest (map (answers_to event) (drop a (map m xs))) ≡ None
  pub within : a ≤ length xs
  pub same : length ys ≡ length xs

none_of_all : {B : Type 0} (w : B → Bool) (xs : List B) (n : ℕ) → n ≡ length xs → newest (map w (drop n xs)) ≡ None
none_of_all {B} w xs n e = rw e (ap (λ (ys : List B). newest (map w ys)) (drop_all xs))

-- nobody was asked yet
pub asked_none : {B : Type 0} (w : B → Bool) (m : B → Memory) (event : ℕ) (xs : List B) → Asked w m event xs xs (length xs)
asked_none {B} w m event xs =
    let len : length (map m xs) ≡ length xs = length-map xs m in
    record {
      before = refl;
      none = none_of_all w xs (length xs) refl;
      memory = remembered_all event (map m xs) ∙ ap (λ (k : ℕ). remembered event k (map m xs)) len;
      known = λ h. none_of_all (answers_to event) (map m xs) (length xs) (sym len);
      within = omega arith;
      same = refl;
    }

-- what is known of the next one, d being there only where there is none
pub record Next {B : Type 0} (w : B → Bool) (m : B → Memory) (event : ℕ) (x y' : B) : Type 0 where
  pub memory : m y' ≡ after_event event (m x)
  pub by_kind : 1 ≤ (m x).kind → w x ≡ answer (m x).kind (m x).asked event

kind_answers : {B : Type 0} (w : B → Bool) (m : B → Memory) (event : ℕ) (xs : List B) (i : ℕ) (x y' : B) → Next w m event x y' → i < length xs → x ≡ slice_index_or xs i x → is_known (map m xs) ≡ true → answers_to event (m x) ≡ w x
unfolding answers_to
kind_answers w m event xs i x y' n lt here h =
    let within : i < length (map m xs) = rw (length-map xs m) lt in
    sym (n.by_kind (known_at (map m xs) i (m x) h within (get_map m xs i x here)))

-- the next one answers false
pub asked_more : {B : Type 0} (w : B → Bool) (m : B → Memory) (event : ℕ) (xs ys : List B) (a i : ℕ) (d y' : B) → Asked w m event xs ys a → a ≡ i + 1 → Next w m event (slice_index_or ys i d) y' → w (slice_index_or ys i d) ≡ false → Asked w m event xs (slice_set ys i y') i
asked_more {B} w m event xs ys a i d y' h e n false_here =
    let y : B = slice_index_or ys i d in
    let same = h.same in
    let inside = h.within in
    let lt : i < length xs = omega arith in
    let own : y ≡ slice_index_or ys i y = get_own ys i d (omega arith) in
    let here : y ≡ slice_index_or xs i y = same_at ys xs i a y e h.before own in
    let within : i < length (map m xs) = rw (length-map xs m) lt in
    record {
      before = still_before ys xs i a y' e h.before;
      none = none_more w xs i a y e lt here h.none false_here;
      memory = remembered_more event m xs ys i a y y' e lt own n.memory h.memory;
      known = λ k. none_more (answers_to event) (map m xs) i a (m y) e within (get_map m xs i y here) (h.known k) (kind_answers w m event xs i y y' n lt here k ∙ false_here);
      within = omega arith;
      same = length-set ys i y' ∙ same;
    }

-- the next one answers true
pub handled_here : {B : Type 0} (w : B → Bool) (m : B → Memory) (event : ℕ) (xs ys : List B) (a i : ℕ) (d y' : B) → Asked w m event xs ys a → a ≡ i + 1 → Next w m event (slice_index_or ys i d) y' → w (slice_index_or ys i d) ≡ true → Delivers w m event xs (slice_set ys i y') (outcome.Handled i)
handled_here {B} w m event xs ys a i d y' h e n true_here =
    let y : B = slice_index_or ys i d in
    let same = h.same in
    let inside = h.within in
    let lt : i < length xs = omega arith in
    let own : y ≡ slice_index_or ys i y = get_own ys i d (omega arith) in
    let here : y ≡ slice_index_or xs i y = same_at ys xs i a y e h.before own in
    let within : i < length (map m xs) = rw (length-map xs m) lt in
    let at : newest (map w xs) ≡ Some i = found w xs i a y e lt here h.none true_here in
    record {
      answer = sym (ap delivered_by at);
      asked = remembered_more event m xs ys i a y y' e lt own n.memory h.memory ∙ ap (λ (o : Option ℕ). remembered event (unwrap_or o 0) (map m xs)) (sym at);
      others = ap (λ (o : Option ℕ). take (unwrap_or o 0) (slice_set ys i y')) at ∙ still_before ys xs i a y' e h.before ∙ ap (λ (o : Option ℕ). take (unwrap_or o 0) xs) (sym at);
      by_kind = λ k. at ∙ sym (found (answers_to event) (map m xs) i a (m y) e within (get_map m xs i y here) (h.known k) (kind_answers w m event xs i y y' n lt here k ∙ true_here)) ∙ ap newest (sym (answers_are event (map m xs)));
    }

-- all were asked
pub unhandled : {B : Type 0} (w : B → Bool) (m : B → Memory) (event : ℕ) (xs ys : List B) (a : ℕ) → Asked w m event xs ys a → a ≡ 0 → Delivers w m event xs ys outcome.Unhandled
unhandled {B} w m event xs ys a h e =
    let none : newest (map w xs) ≡ None = rw e at h.none in
    let memory : map m ys ≡ remembered event 0 (map m xs) = rw e at h.memory in
    record {
      answer = sym (ap delivered_by none);
      asked = memory ∙ ap (λ (o : Option ℕ). remembered event (unwrap_or o 0) (map m xs)) (sym none);
      others = ap (λ (o : Option ℕ). take (unwrap_or o 0) ys) none ∙ ap (λ (o : Option ℕ). take (unwrap_or o 0) xs) (sym none);
      by_kind = λ k. none ∙ sym (unasked e (h.known k)) ∙ ap newest (sym (answers_are event (map m xs)));
    }
  where
    unasked : a ≡ 0 → newest (map (answers_to event) (drop a (map m xs))) ≡ None → newest (map (answers_to event) (map m xs)) ≡ None
    unasked e h = rw e at h

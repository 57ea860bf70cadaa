-- The handlers after one was added or removed.
use Rattle.std.proofs.Common.{◌≡◌, ◌≢◌, ℕ, zero, suc, ◌+◌, ◌≤◌, Bool, true, false, cond, List, [], ◌∷◌, map, length}
use Rattle.std.proofs.Common.{get_or, Option, Some, None, Result, Ok, Err, position, refl, sym, ap, ◌∙◌, subst, arith}
use Rattle.std.specs.Prelude.{◌==◌, ◌&&◌, ◌||◌, not, nat_lt, slice_set, OnOk, OnErr, if◌then◌else◌}
use Rattle.std.specs.List.{list_all, list_any, remove, position_or_len}
use Rattle.std.specs.Option.{option_map}
use Rattle.std.proofs.lemmas.Bool.Decides.{nat_tests}
use Rattle.std.proofs.lemmas.Bool.{ltb-false}
use Rattle.std.proofs.lemmas.List.{get_or-set_other, length-map}
use Rattle.std.proofs.Math.ListN.{get_or-map}
use Rattle.con_units.specs.declared.code.Code.{Code}
use Rattle.con_units.specs.declared.code.Code.TheVariants as code
use Rattle.con_handlers.specs.Words.Delivery.{removal}
use Rattle.con_handlers.specs.Memory.{Memory}
use Rattle.con_machine.specs.Chain.{Handler}
use Rattle.con_machine.specs.Words.Chain.{without_handler}
use Rattle.con_machine.specs.Follows.{kinds_of}
use Rattle.con_laws.specs.Rounds.{Begun}
use Rattle.con_actors.specs.Worker.{told_kind}
use Rattle.con_actors.specs.Words.Worker.{HandsAreBy, HandsStandBy, told_in, places_in, stand_once}

-- ---- what the slots of a rack hold

abbrev pub slots_of : {B : Type 0} → (B → Memory) → List (Option B) → List ℕ
slots_of memory rack = map (λ o. told_in (option_map memory o)) rack

-- the others are as they were
pub slots_stay : {B : Type 0} (memory : B → Memory) (rack : List (Option B)) (place i : ℕ) → (i == place) ≡ false
    → get_or (slots_of memory (slice_set rack place None)) i 0 ≡ get_or (slots_of memory rack) i 0
slots_stay memory rack place i n =
    let differ : i ≢ place = grind (arith, nat_tests) in
    get_or-map (λ o. told_in (option_map memory o)) (slice_set rack place None) i None
    ∙ (ap (λ o. told_in (option_map memory o)) (get_or-set_other rack place i None None differ)
    ∙ sym (get_or-map (λ o. told_in (option_map memory o)) rack i None))

-- ---- one is removed

-- where no place stands twice, the first handler of a place is the only one
found_by : (b : Bool) (n k : ℕ) → cond b (Some n) None ≡ Some k → n ≡ k
found_by true n k is = cc
found_by false n k is = absurd (cc)

none_by : (b : Bool) (n : ℕ) → cond b (Some n) None ≡ None → b ≡ false
none_by true n is = absurd (cc)
none_by false n is = refl

none_kept : (hs : List Handler) (i : ℕ) → list_any (λ y. y == i) (places_in hs) ≡ false → without_handler hs i ≡ hs
none_kept [] i n = refl
none_kept (h ∷ hs) i n = by (h.place == i) n (λ m. none_kept hs i m)
  where
    by : (b : Bool) → (b || list_any (λ y. y == i) (places_in hs)) ≡ false → (list_any (λ y. y == i) (places_in hs) ≡ false → without_handler hs i ≡ hs)
        → cond (not b) (h ∷ without_handler hs i) (without_handler hs i) ≡ h ∷ hs
    by true m rest = absurd (cc)
    by false m rest = ap (λ (xs : List Handler). h ∷ xs) (rest m)

pub remove_past : {A : Type 0} (xs : List A) (k : ℕ) → length xs ≤ k → remove xs k ≡ xs
remove_past [] zero m = refl
remove_past [] (suc k) m = refl
remove_past (x ∷ xs) zero m = absurd (omega arith)
remove_past (x ∷ xs) (suc k) m = ap (λ ys. x ∷ ys) (remove_past xs k (omega arith))

first_gone : (b : Bool) (h : Handler) (hs : List Handler) (i n : ℕ) → (b ≡ true → list_any (λ y. y == i) (places_in hs) ≡ false)
    → without_handler hs i ≡ remove hs n → cond (not b) (h ∷ without_handler hs i) (without_handler hs i) ≡ remove (h ∷ hs) (cond (not b) (1 + n) 0)
first_gone true h hs i n once rest = none_kept hs i (once refl)
first_gone false h hs i n once rest =
    let next : 1 + n ≡ suc n = omega arith in ap (λ (xs : List Handler). h ∷ xs) rest ∙ ap (λ (k : ℕ). remove (h ∷ hs) k) (sym next)

split : (a b : Bool) → (not a && b) ≡ true → (a ≡ false) × (b ≡ true)
split true b e = absurd (cc)
split false b e = (refl, e)

pub without_is : (hs : List Handler) (i : ℕ) → stand_once (places_in hs) ≡ true
    → without_handler hs i ≡ remove hs (position_or_len (λ y. y == i) (places_in hs))
without_is [] i o = sym (remove_past [] (position_or_len (λ y. y == i) []) (omega arith))
without_is (h ∷ hs) i o =
    let k = split (list_any (λ y. y == h.place) (places_in hs)) (stand_once (places_in hs)) o in
    first_gone (h.place == i) h hs i (position_or_len (λ y. y == i) (places_in hs)) (same k.0) (without_is hs i k.1)
  where
    same : list_any (λ y. y == h.place) (places_in hs) ≡ false → (h.place == i) ≡ true → list_any (λ y. y == i) (places_in hs) ≡ false
    same n e = let one : h.place ≡ i = grind (arith, nat_tests) in let P : ℕ → Type 0 = λ z. list_any (λ y. y == z) (places_in hs) ≡ false in subst P one n

pub map_remove : {A B : Type 0} (f : A → B) (xs : List A) (k : ℕ) → map f (remove xs k) ≡ remove (map f xs) k
map_remove f [] zero = refl
map_remove f [] (suc k) = refl
map_remove f (x ∷ xs) zero = refl
map_remove f (x ∷ xs) (suc k) = ap (λ ys. f x ∷ ys) (map_remove f xs k)

pub all_remove : (p : Memory → Bool) (xs : List Memory) (k : ℕ) → list_all p xs ≡ true → list_all p (remove xs k) ≡ true
all_remove p [] zero a = refl
all_remove p [] (suc k) a = refl
all_remove p (x ∷ xs) zero a = (apart (p x) (list_all p xs) a).1
  where
    apart : (a b : Bool) → (a && b) ≡ true → (a ≡ true) × (b ≡ true)
    apart true b e = (refl, e)
    apart false b e = absurd (cc)
all_remove p (x ∷ xs) (suc k) a = let z = apart (p x) (list_all p xs) a in both (p x) (list_all p (remove xs k)) z.0 (all_remove p xs k z.1)
  where
    apart : (a b : Bool) → (a && b) ≡ true → (a ≡ true) × (b ≡ true)
    apart true b e = (refl, e)
    apart false b e = absurd (cc)

    both : (a b : Bool) → a ≡ true → b ≡ true → (a && b) ≡ true
    both a b e f = rw (e, f) refl

-- the first place that is this one, or the end
pub removed_at : {B : Type 0} (memory : B → Memory) (hs : List Handler) (doubtful : Bool) (places : List ℕ) (old : List B) (i n : ℕ)
    → n ≡ position_or_len (λ y. y == i) places → stand_once (places_in hs) ≡ true → HandsAreBy hs doubtful places (map memory old)
    → HandsAreBy (without_handler hs i) doubtful (remove places n) (map memory (remove old n))
removed_at memory hs doubtful places old i n e once are =
    let at : doubtful ≡ false → without_handler hs i ≡ remove hs n =
    λ f. without_is hs i once ∙ ap (λ (k : ℕ). remove hs k) (ap (position_or_len (λ y. y == i)) (are.places' f) ∙ sym e) in
    let now : map memory (remove old n) ≡ remove (map memory old) n = map_remove memory old n in record {
      places' = λ f. ap (map (λ h. h.place)) (at f) ∙ (map_remove (λ h. h.place) hs n ∙ ap (λ (xs : List ℕ). remove xs n) (are.places' f));
      kinds = λ f. ap (map (λ h. h.kind)) (at f) ∙ (map_remove (λ h. h.kind) hs n
          ∙ (ap (λ (xs : List ℕ). remove xs n) (are.kinds f) ∙ (sym (map_remove (λ m. m.kind) (map memory old) n) ∙ ap (map (λ m. m.kind)) (sym now))));
      asked = λ f. ap (map (λ h. h.asked)) (at f) ∙ (map_remove (λ h. h.asked) hs n
          ∙ (ap (λ (xs : List ℕ). remove xs n) (are.asked f) ∙ (sym (map_remove (λ m. m.asked) (map memory old) n) ∙ ap (map (λ m. m.asked)) (sym now))));
      known = λ f. ap (list_all (λ m. nat_lt 0 m.kind)) now ∙ all_remove (λ m. nat_lt 0 m.kind) (map memory old) n (are.known f);
    }

pub removed_hands : {B : Type 0} (memory : B → Memory) (hs : List Handler) (doubtful : Bool) (places : List ℕ) (old : List B) (i k : ℕ)
    → position (λ y. y == i) places ≡ Some k → stand_once (places_in hs) ≡ true → HandsAreBy hs doubtful places (map memory old)
    → HandsAreBy (without_handler hs i) doubtful (remove places k) (map memory (remove old k))
removed_hands memory hs doubtful places old i k e once are =
    removed_at memory hs doubtful places old i k
    (sym (found_by (nat_lt (position_or_len (λ y. y == i) places) (length places)) (position_or_len (λ y. y == i) places) k e)) once are

-- a place that no handler of the chain has
pub absent_hands : (hs : List Handler) (doubtful : Bool) (places : List ℕ) (ms : List Memory) (i : ℕ) → position (λ y. y == i) places ≡ None
    → stand_once (places_in hs) ≡ true → HandsAreBy hs doubtful places ms → HandsAreBy (without_handler hs i) doubtful places ms
absent_hands hs doubtful places ms i e once are =
    let n = position_or_len (λ y. y == i) places in
    let past : length places ≤ n = ltb-false n (length places) (none_by (nat_lt n (length places)) n e) in
    let same : doubtful ≡ false → without_handler hs i ≡ hs = λ f. without_is hs i once
    ∙ (ap (λ (k : ℕ). remove hs k) (ap (position_or_len (λ y. y == i)) (are.places' f)) ∙ remove_past hs n (few f past)) in record {
      places' = λ f. ap (map (λ h. h.place)) (same f) ∙ are.places' f;
      kinds = λ f. ap (map (λ h. h.kind)) (same f) ∙ are.kinds f;
      asked = λ f. ap (map (λ h. h.asked)) (same f) ∙ are.asked f;
      known = are.known;
    }
  where
    few : doubtful ≡ false → length places ≤ position_or_len (λ y. y == i) places → length hs ≤ position_or_len (λ y. y == i) places
    few f m = let P : List ℕ → Type 0 = λ xs. length xs ≤ position_or_len (λ y. y == i) places in let q = subst P (sym (are.places' f)) m in
        let l : length (places_in hs) ≡ length hs = length-map hs (λ h. h.place) in omega (arith, q, l)

-- a handler that is dropped, if there is one at the index
pub dropped_by : {B : Type 0} (old new : List B) (k : ℕ) (b : Bool) (r : Result (Unit {0}) Code)
    → nat_lt k (length old) ≡ b → r ≡ (if b then Ok tt else Err code.BadArgument) → OnOk r (new ≡ remove old k) → OnErr r (new ≡ old) → new ≡ remove old k
dropped_by old new k true (Ok u) e f ok err = ok
dropped_by old new k true (Err why) e f ok err = absurd (cc)
dropped_by old new k false (Ok u) e f ok err = absurd (cc)
dropped_by old new k false (Err why) e f ok err = err ∙ sym (remove_past old k (ltb-false k (length old) e))

pub dropped_is : {B : Type 0} (old new : List B) (r : Result (Unit {0}) Code) (k : ℕ)
    → r ≡ removal (length old) k → OnOk r (new ≡ remove old k) → OnErr r (new ≡ old) → new ≡ remove old k
dropped_is old new r k e ok err = dropped_by old new k (nat_lt k (length old)) r refl e ok err

-- ---- before the first entry

pub full_slots : {B : Type 0} (memory : B → Memory) (xs : List B) → slots_of memory (map Some xs) ≡ map (λ x. told_kind (memory x)) xs
full_slots memory [] = refl
full_slots memory (x ∷ xs) = ap (λ (ks : List ℕ). told_kind (memory x) ∷ ks) (full_slots memory xs)

pub first_hands : {B : Type 0} (memory : B → Memory) (xs : List B) (rack : List (Option B)) (b : Begun) (p : ℕ)
    → rack ≡ map Some xs → kinds_of b.racks p ≡ map (λ x. told_kind (memory x)) xs → HandsStandBy b p [] [] [] (slots_of memory rack)
first_hands memory xs rack b p e k = record {
  chain = record { places' = λ f. refl; kinds = λ f. refl; asked = λ f. refl; known = λ f. refl };
  rack = record {
    left = λ i n. ap (λ (ks : List ℕ). get_or ks i 0) (ap (slots_of memory) e ∙ (full_slots memory xs ∙ sym k));
    added = refl;
    once = refl;
  };
}

-- What a reader gives for a byte after a sequence.
use Rattle.std.proofs.Common.{◌≡◌, ◌≢◌, ℕ, Bool, true, false, cond, ◌==◌, ◌&&◌, ◌≤◌, length, lit≤, arith, List, [], ◌∷◌, ◌++◌, Option, Some, None, refl, sym, ap, ◌∙◌, append_assoc}
use Rattle.std.specs.Prelude.{option_to_list, nat_le}
use Rattle.std.proofs.lemmas.Bool.Decides.{nat_tests}
use Rattle.con_units.specs.Utf8.{is_cut_character}
use Rattle.con_units.specs.Split.{Split, next, with_items}
use Rattle.con_units.specs.Words.Split.{ended, items_or_none}
use Rattle.con_records.specs.declared.record.Key.{Key}
use Rattle.con_vtin.specs.Keys.{is_front, whole, broken, escape_is_front, control_is_front, is_empty, is_parameter, is_intermediate, skip_while}
use Rattle.con_vtin.specs.Words.Keys.{grammar}
use Rattle.con_vtin.specs.Holding.{held_of, IsApart, Advances}
use Rattle.con_vtin.specs.declared.unfinished.Advance.TheVariants as advances
use Rattle.con_vtin.proofs.Lists.{append_none, both, and_false}

goes_on : (front : List ℕ) (u : ℕ) → is_front (front ++ u ∷ []) ≡ true → next grammar front u ≡ record { items = []; tail = front ++ u ∷ [] }
unfolding next
goes_on [] u h = rw h refl
goes_on (v ∷ front) u h = rw h refl

whole_next : (front : List ℕ) (u : ℕ) (items : List Key) → is_front (front ++ u ∷ []) ≡ false → whole (front ++ u ∷ []) ≡ Some items → next grammar front u ≡ record { items = items; tail = [] }
unfolding next
whole_next [] u items h k = rw (h, k) refl
whole_next (v ∷ front) u items h k = rw (h, k) refl

broken_next : (front : List ℕ) (u : ℕ) → front ≢ [] → is_front (front ++ u ∷ []) ≡ false → whole (front ++ u ∷ []) ≡ None → next grammar front u ≡ with_items (broken front) (next grammar [] u)
unfolding next
broken_next [] u some h k = absurd (some refl)
broken_next (v ∷ front) u some h k = rw (h, k) refl

-- the keys added, and what is held then
pub record Fed (before after : List Key) (sequence text : List ℕ) (s : Split Key) : Type 0 where
  pub keys : after ≡ before ++ s.items
  pub tail : held_of sequence text ≡ s.tail
  pub apart : IsApart sequence text

held_longer : (xs : List ℕ) (u : ℕ) (text : List ℕ) → xs ≢ [] → held_of (xs ++ u ∷ []) text ≡ xs ++ u ∷ []
held_longer [] u text some = absurd (some refl)
held_longer (x ∷ xs) u text some = refl

apart_longer : (xs : List ℕ) (u : ℕ) (text : List ℕ) → xs ≢ [] → text ≡ [] → IsApart (xs ++ u ∷ []) text
apart_longer [] u text some none = absurd (some refl)
apart_longer (x ∷ xs) u text some none = none

pub fed_on : (before : List Key) (sequence after text : List ℕ) (u : ℕ) → sequence ≢ [] → text ≡ [] → Advances advances.GoesOn sequence u after → Fed before before after text (next grammar sequence u)
fed_on before sequence after text u some none a = record {
  keys = rw (goes_on sequence u a.0) (sym (append_none before));
  tail = rw (goes_on sequence u a.0, a.1) (held_longer sequence u text some);
  apart = rw a.1 (apart_longer sequence u text some none);
}

pub fed_end : (key : Option Key) (before keys : List Key) (sequence after text : List ℕ) (u : ℕ) → text ≡ [] → Advances (advances.Ends key) sequence u after → keys ≡ before ++ option_to_list key → Fed before keys after text (next grammar sequence u)
fed_end key before keys sequence after text u none a is = record {
  keys = rw (whole_next sequence u (option_to_list key) a.0 a.1) is;
  tail = rw (whole_next sequence u (option_to_list key) a.0 a.1, a.2) none;
  apart = rw (a.2, none) refl;
}

pub fed_break : (before between keys : List Key) (sequence after text : List ℕ) (u : ℕ) (now : List ℕ) → sequence ≢ [] → Advances advances.Breaks sequence u now → between ≡ before ++ broken sequence
    → keys ≡ between ++ (next grammar [] u).items → held_of after text ≡ (next grammar [] u).tail → IsApart after text → Fed before keys after text (next grammar sequence u)
fed_break before between keys sequence after text u now some a first rest tail apart = record {
  keys = rw (broken_next sequence u some a.0 a.1) (rest ∙ (ap (λ ks. ks ++ (next grammar [] u).items) first ∙ append_assoc before (broken sequence) (next grammar [] u).items));
  tail = rw (broken_next sequence u some a.0 a.1) tail;
  apart = apart;
}

-- ---- no more than 32 bytes are held

few_cut : (b : ℕ) (bs : List ℕ) → is_cut_character (b ∷ bs) ≡ true → length bs ≤ 3
few_cut b [] h = omega arith
few_cut b (c ∷ []) h = omega arith
few_cut b (c ∷ d ∷ []) h = omega arith
few_cut b (c ∷ d ∷ e ∷ bs) h = cc

few_after : (c e : Bool) (bs : List ℕ) → cond c (control_is_front bs) (e && is_empty bs) ≡ true → length bs ≤ 30
few_after true e bs h = small (length bs) (both (nat_le (length bs) 30) (is_empty (skip_while is_intermediate (skip_while is_parameter bs))) h).0
  where
    small : (n : ℕ) → nat_le n 30 ≡ true → n ≤ 30
    small n h = grind (arith, nat_tests)
few_after false e [] h = omega arith
few_after false e (b ∷ bs) h = absurd (off (e && false) (and_false e) h)
  where
    off : (x : Bool) → x ≡ false → x ≡ true → ⊥
    off true p q = cc
    off false p q = cc

few_escape : (bs : List ℕ) → escape_is_front bs ≡ true → length bs ≤ 31
few_escape [] h = omega arith
few_escape (b ∷ bs) h = let few = few_after (b == 0x5B) (b == 0x4F) bs h in omega (arith, few)

few_by : (c : Bool) (b : ℕ) (bs : List ℕ) → cond c (escape_is_front bs) (is_cut_character (b ∷ bs)) ≡ true → length bs ≤ 31
few_by true b bs h = few_escape bs h
few_by false b bs h = let few = few_cut b bs h in omega (arith, few)

front_is_few : (bytes : List ℕ) → is_front bytes ≡ true → length bytes ≤ 32
unfolding is_front
front_is_few [] h = omega arith
front_is_few (b ∷ bs) h = let few = few_by (b == 0x1B) b bs h in omega (arith, few)

begun_is_few : (u : ℕ) (b : Bool) (items : List Key) → let s : Split Key = cond b (record { items = []; tail = u ∷ [] }) (record { items = items; tail = [] }) in length s.tail ≤ 32
begun_is_few u true items = lit≤ tt
begun_is_few u false items = lit≤ tt

tail_by : (b : Bool) (bytes : List ℕ) (v : ℕ) (front : List ℕ) (u : ℕ) (o : Option (List Key)) → (b ≡ true → length bytes ≤ 32)
    → let s : Split Key = cond b (record { items = []; tail = bytes }) (ended grammar (v ∷ front) u o) in length s.tail ≤ 32
tail_by true bytes v front u o h = h refl
tail_by false bytes v front u (Some items) h = lit≤ tt
tail_by false bytes v front u None h = begun_is_few u (is_front (u ∷ [])) (items_or_none (whole (u ∷ [])))

pub tail_is_few : (front : List ℕ) (u : ℕ) → length (next grammar front u).tail ≤ 32
unfolding next
tail_is_few [] u = begun_is_few u (is_front (u ∷ [])) (items_or_none (whole (u ∷ [])))
tail_is_few (v ∷ front) u = tail_by (is_front (v ∷ front ++ u ∷ [])) (v ∷ front ++ u ∷ []) v front u (whole (v ∷ front ++ u ∷ [])) (front_is_few (v ∷ front ++ u ∷ []))

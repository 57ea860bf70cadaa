-- What bytes spell.
use Rattle.std.proofs.Common.{◌≡◌, ℕ, ◌+◌, ◌-◌, ◌*◌, ◌/◌, ◌%◌, ◌<◌, ◌≤◌, Bool, true, false, cond, ◌==◌, ◌&&◌, ◌||◌, not, nat_lt, nat_le, min, List, [], ◌∷◌, ◌++◌, map, Some, refl, sym, ap, ◌∙◌, arith, ◌⊎◌, inl, inr}
use Rattle.std.specs.Prelude.{flat_map}
use Rattle.std.specs.List.{list_all}
use Rattle.std.proofs.lemmas.Grind.{flat_map-append}
use Rattle.std.proofs.lemmas.List.Folds.{list_all-append}
use Rattle.std.proofs.lemmas.Bool.Decides.{nat_tests}
use Rattle.con_units.specs.Split.{Grammar, split, split_after, with_items, next}
use Rattle.con_units.specs.Laws.{GoesOnBy, IsOpen}
use Rattle.con_units.specs.Utf8.{utf8, is_cut_character, whole_character, may_follow}
use Rattle.con_units.specs.Stored.{is_shown, stored_unit, is_control}
use Rattle.con_units.specs.Words.Stored.{is_surrogate}
use Rattle.con_units.specs.ReadLaws.{read_so}
use Rattle.con_units.specs.SplitLaws.{split_after-append}
use Rattle.con_units.specs.Decimal.{decimal}
use Rattle.con_vtgram.specs.Text.{grammar, is_front, whole, kept, sixteen, csi_items, is_parameter_unit, is_digit_or_semicolon, is_acting, after_question, is_question}
use Rattle.con_vtgram.specs.Numbers.{pieces, parameter, parameters, decimal_value}
use Rattle.con_vtgram.specs.declared.item.Item.{Item}
use Rattle.con_vtgram.specs.declared.item.Item.TheVariants.{Print, Control, Csi}
use Rattle.con_vtgram.specs.SequenceLaws.{first-is_front, first-whole}
use Rattle.con_term.specs.Play.{units_of}
use Rattle.con_strokes.specs.Bytes.{more_numbers, separated, csi_bytes, utf8_of, ground_bytes}
use Rattle.con_strokes.specs.Spells.{AllSmall, IsFinal, Spells, csi, question, ground_items}

-- ---- one after another

pub joined : {A : Type 0} (g : Grammar A) (xs ys : List ℕ) (is js : List A) → split g xs ≡ record { items = is; tail = [] } → split g ys ≡ record { items = js; tail = [] } → split g (xs ++ ys) ≡ record { items = is ++ js; tail = [] }
joined g xs ys is js h k = split_after-append g [] xs ys ∙ rw (h, k) refl

pub spells-append : (xs ys : List ℕ) (is js : List Item) → Spells xs is → Spells ys js → Spells (xs ++ ys) (is ++ js)
spells-append xs ys is js h k = record {
  characters = h.characters ++ k.characters;
  decoded = joined utf8 xs ys h.characters k.characters h.decoded k.decoded;
  read = rw (flat_map-append units_of h.characters k.characters) (joined grammar (flat_map units_of h.characters) (flat_map units_of k.characters) is js h.read k.read);
}

pub spells-none : Spells [] []
unfolding split_after
spells-none = record { characters = []; decoded = refl; read = refl }

-- ---- ASCII

abbrev pub is_ascii : ℕ → Bool
is_ascii b = nat_lt b 0x80

both : (a b : Bool) → (a && b) ≡ true → (a ≡ true) × (b ≡ true)
both true b h = (refl, h)
both false b h = cc

not_cut : (u : ℕ) → is_ascii u ≡ true → is_cut_character (u ∷ []) ≡ false
not_cut u h = grind (arith, nat_tests)

pub ascii_split : (bytes : List ℕ) → list_all is_ascii bytes ≡ true → split utf8 bytes ≡ record { items = bytes; tail = [] }
unfolding split_after
ascii_split [] h = refl
ascii_split (b ∷ bs) h = let k = both (is_ascii b) (list_all is_ascii bs) h in
    (read_so utf8).whole [] bs b (b ∷ []) tt (not_cut b k.0) (rw k.0 refl) ∙ ap (with_items (b ∷ [])) (ascii_split bs k.1)

one_unit : (c : ℕ) → is_ascii c ≡ true → units_of c ≡ c ∷ []
unfolding units_of
one_unit c h = let small : nat_lt c 0x10000 ≡ true = grind (arith, nat_tests) in rw small refl

pub ascii_units : (bytes : List ℕ) → list_all is_ascii bytes ≡ true → flat_map units_of bytes ≡ bytes
ascii_units [] h = refl
ascii_units (b ∷ bs) h = let k = both (is_ascii b) (list_all is_ascii bs) h in rw (one_unit b k.0) (ap (λ xs. b ∷ xs) (ascii_units bs k.1))

pub ascii_spells : (bytes : List ℕ) (items : List Item) → list_all is_ascii bytes ≡ true → split grammar bytes ≡ record { items = items; tail = [] } → Spells bytes items
ascii_spells bytes items h k = record { characters = bytes; decoded = ascii_split bytes h; read = rw (ascii_units bytes h) k }

-- ---- numbers

abbrev pub is_digit : ℕ → Bool
is_digit u = nat_le 0x30 u && nat_le u 0x39

pub all_digits : (n : ℕ) → n < 1000 → list_all is_digit (decimal n) ≡ true
unfolding decimal
all_digits n h = by_size (nat_lt n 100) (nat_lt n 10) refl refl
  where
    last : is_digit (0x30 + n % 10) ≡ true
    last = grind (arith, nat_tests)

    tens : is_digit (0x30 + n / 10 % 10) ≡ true
    tens = grind (arith, nat_tests)

    hundreds : is_digit (0x30 + n / 100) ≡ true
    hundreds = grind (arith, nat_tests)

    by_size : (a b : Bool) → nat_lt n 100 ≡ a → nat_lt n 10 ≡ b → list_all is_digit (cond a [] ((0x30 + n / 100) ∷ []) ++ cond b [] ((0x30 + n / 10 % 10) ∷ []) ++ (0x30 + n % 10) ∷ []) ≡ true
    by_size true true _ _ = rw last refl
    by_size true false _ _ = rw (tens, last) refl
    by_size false true _ _ = rw (hundreds, last) refl
    by_size false false _ _ = rw (hundreds, tens, last) refl

pub value_of_digits : (n : ℕ) → n < 1000 → decimal_value (decimal n) ≡ n
unfolding decimal
value_of_digits n h = by_size (nat_lt n 100) (nat_lt n 10) refl refl
  where
    by_size : (a b : Bool) → nat_lt n 100 ≡ a → nat_lt n 10 ≡ b → decimal_value (cond a [] ((0x30 + n / 100) ∷ []) ++ cond b [] ((0x30 + n / 10 % 10) ∷ []) ++ (0x30 + n % 10) ∷ []) ≡ n
    by_size true true p q = grind (arith, nat_tests)
    by_size true false p q = grind (arith, nat_tests)
    by_size false true p q = grind (arith, nat_tests)
    by_size false false p q = grind (arith, nat_tests)

append_none : {A : Type 0} (xs : List A) → xs ++ [] ≡ xs
append_none [] = refl
append_none (x ∷ xs) = ap (λ zs. x ∷ zs) (append_none xs)

no_semicolon : (d : ℕ) → is_digit d ≡ true → (d == 0x3B) ≡ false
no_semicolon d h = grind (arith, nat_tests)

front_piece : (ds rest p : List ℕ) (ps : List (List ℕ)) → list_all is_digit ds ≡ true → pieces rest ≡ p ∷ ps → pieces (ds ++ rest) ≡ (ds ++ p) ∷ ps
unfolding pieces
front_piece [] rest p ps h k = k
front_piece (d ∷ ds) rest p ps h k = let e = both (is_digit d) (list_all is_digit ds) h in rw (no_semicolon d e.0, front_piece ds rest p ps e.1 k) refl

pieces_are : (n : ℕ) (ns : List ℕ) → n < 1000 → AllSmall ns → pieces (decimal n ++ more_numbers ns) ≡ decimal n ∷ map decimal ns
unfolding pieces
pieces_are n [] h all = front_piece (decimal n) [] [] [] (all_digits n h) refl ∙ ap (λ p. p ∷ []) (append_none (decimal n))
pieces_are n (m ∷ ms) h all = front_piece (decimal n) (0x3B ∷ (decimal m ++ more_numbers ms)) [] (pieces (decimal m ++ more_numbers ms)) (all_digits n h) refl
    ∙ rw (append_none (decimal n), pieces_are m ms all.0 all.1) refl

values_are : (ns : List ℕ) → AllSmall ns → map parameter (map decimal ns) ≡ ns
values_are [] all = refl
values_are (n ∷ ns) all = let small : min 32767 n ≡ n = omega arith in rw (value_of_digits n all.0, small, values_are ns all.1) refl

parameters_some : (x : ℕ) (xs ys : List ℕ) → ys ≡ x ∷ xs → parameters ys ≡ map parameter (pieces ys)
unfolding parameters
parameters_some x xs ys h = rw h refl

digits_some : (n : ℕ) (rest : List ℕ) → (x : ℕ) × (xs : List ℕ) × (decimal n ++ rest ≡ x ∷ xs)
unfolding decimal
digits_some n rest = by_size (nat_lt n 100) (nat_lt n 10)
  where
    by_size : (a b : Bool) → (x : ℕ) × (xs : List ℕ) × ((cond a [] ((0x30 + n / 100) ∷ []) ++ cond b [] ((0x30 + n / 10 % 10) ∷ []) ++ (0x30 + n % 10) ∷ []) ++ rest ≡ x ∷ xs)
    by_size true true = (_, _, refl)
    by_size true false = (_, _, refl)
    by_size false true = (_, _, refl)
    by_size false false = (_, _, refl)

pub numbers_are : (n : ℕ) (ns : List ℕ) → n < 1000 → AllSmall ns → parameters (decimal n ++ more_numbers ns) ≡ n ∷ ns
numbers_are n ns h all = let some = digits_some n (more_numbers ns) in
    parameters_some some.0 some.1 (decimal n ++ more_numbers ns) some.2 ∙ rw (pieces_are n ns h all) (values_are (n ∷ ns) (h, all))

-- ---- control sequences

weaker : (p q : ℕ → Bool) (xs : List ℕ) → ((x : ℕ) → p x ≡ true → q x ≡ true) → list_all p xs ≡ true → list_all q xs ≡ true
weaker p q [] f h = refl
weaker p q (x ∷ xs) f h = let k = both (p x) (list_all p xs) h in rw (f x k.0) (weaker p q xs f k.1)

joined_all : (p : ℕ → Bool) (xs ys : List ℕ) → list_all p xs ≡ true → list_all p ys ≡ true → list_all p (xs ++ ys) ≡ true
joined_all p xs ys h k = list_all-append p xs ys ∙ rw (h, k) refl

abbrev is_body : ℕ → Bool
is_body u = nat_le 0x30 u && nat_le u 0x3B && not (u == 0x3A)

digit_body : (x : ℕ) → is_digit x ≡ true → is_body x ≡ true
digit_body x h = grind (arith, nat_tests)

more_body : (ns : List ℕ) → AllSmall ns → list_all is_body (more_numbers ns) ≡ true
more_body [] all = refl
more_body (n ∷ ns) all = joined_all is_body (decimal n) (more_numbers ns) (weaker is_digit is_body (decimal n) digit_body (all_digits n all.0)) (more_body ns all.1)

body : (n : ℕ) (ns : List ℕ) → n < 1000 → AllSmall ns → list_all is_body (decimal n ++ more_numbers ns) ≡ true
body n ns h all = joined_all is_body (decimal n) (more_numbers ns) (weaker is_digit is_body (decimal n) digit_body (all_digits n h)) (more_body ns all)

open_body : (done more : List ℕ) → list_all is_parameter_unit done ≡ true → list_all is_parameter_unit more ≡ true → GoesOnBy grammar (0x1B ∷ 0x5B ∷ done) more
unfolding is_front
open_body done [] h k = tt
open_body done (u ∷ us) h k = let e = both (is_parameter_unit u) (list_all is_parameter_unit us) k in
    (first-is_front done u h ∙ rw e.0 refl, open_body (done ++ u ∷ []) us (joined_all is_parameter_unit done (u ∷ []) h (rw e.0 refl)) e.1)

open_csi : (first : List ℕ) → list_all is_parameter_unit first ≡ true → IsOpen grammar (0x1B ∷ 0x5B ∷ first)
unfolding is_front
open_csi first h = (refl, (refl, open_body [] first refl h))

no_question : (first : List ℕ) → list_all is_body first ≡ true → (is_question first ≡ false) × (after_question first ≡ first)
no_question [] h = (refl, refl)
no_question (u ∷ us) h = let k = both (is_body u) (list_all is_body us) h in let e : (u == 0x3F) ≡ false = grind (arith, nat_tests) in (e, rw e refl)

pub csi_split : (first : List ℕ) (last : ℕ) (ns : List ℕ) → list_all is_body first ≡ true → IsFinal last → parameters first ≡ ns → split grammar (0x1B ∷ 0x5B ∷ (first ++ last ∷ [])) ≡ record { items = Csi (csi ns last) ∷ []; tail = [] }
unfolding is_front whole csi_items split_after
csi_split first last ns h final e =
    let units : list_all is_parameter_unit first ≡ true = weaker is_body is_parameter_unit first (λ x k. grind (arith, nat_tests)) h in
    let plain : list_all is_digit_or_semicolon first ≡ true = weaker is_body is_digit_or_semicolon first (λ x k. grind (arith, nat_tests)) h in
    let a : is_parameter_unit last ≡ false = grind (arith, nat_tests) in
    let b : (nat_le 0x20 last && nat_le last 0x2F) ≡ false = grind (arith, nat_tests) in
    let c : (nat_le 0x40 last && nat_le last 0x7E) ≡ true = grind (arith, nat_tests) in
    let q = no_question first h in
    (read_so grammar).whole (0x1B ∷ 0x5B ∷ first) [] last (Csi (csi ns last) ∷ []) (open_csi first units) (first-is_front first last units ∙ rw (a, b) refl)
    (first-whole first last units a b ∙ rw (c, q.0, q.1, plain, e) refl)

body_ascii : (x : ℕ) → is_body x ≡ true → is_ascii x ≡ true
body_ascii x h = grind (arith, nat_tests)

separated_body : (ns : List ℕ) → AllSmall ns → list_all is_body (separated false ns) ≡ true
separated_body [] all = refl
separated_body (n ∷ ns) all = body n ns all.0 all.1

separated_are : (ns : List ℕ) → AllSmall ns → parameters (separated false ns) ≡ ns
unfolding parameters
separated_are [] all = refl
separated_are (n ∷ ns) all = numbers_are n ns all.0 all.1

pub csi_spells : (ns : List ℕ) (last : ℕ) → AllSmall ns → IsFinal last → Spells (csi_bytes ns last) (Csi (csi ns last) ∷ [])
unfolding csi_bytes
csi_spells ns last all final =
    let b = separated_body ns all in let a : is_ascii last ≡ true = grind (arith, nat_tests) in
    ascii_spells (0x1B ∷ 0x5B ∷ (separated false ns ++ last ∷ [])) (Csi (csi ns last) ∷ [])
    (joined_all is_ascii (separated false ns) (last ∷ []) (weaker is_body is_ascii (separated false ns) body_ascii b) (rw a refl))
    (csi_split (separated false ns) last ns b final (separated_are ns all))

-- ---- characters

replacement_shown : is_shown 0xFFFD ≡ true
unfolding is_shown
replacement_shown = refl

pub shown : (u : ℕ) → stored_unit u ≡ u → is_shown u ≡ true
shown u h = by_test (is_shown u) refl
  where
    by_test : (b : Bool) → is_shown u ≡ b → is_shown u ≡ true
    by_test true e = e
    by_test false e = let v : 0xFFFD ≡ u = rw e at h in ap is_shown (sym v) ∙ replacement_shown

parts : (b c s w : Bool) → (b || (not c && not s && w)) ≡ true → (b ≡ true) ⊎ ((c ≡ false) × (s ≡ false))
parts true c s w h = inl refl
parts false true s w h = cc
parts false false true w h = cc
parts false false false w h = inr (refl, refl)

pub plain_unit : (u : ℕ) → stored_unit u ≡ u → (is_control u ≡ false) × (is_surrogate u ≡ false)
unfolding is_shown
plain_unit u h = elim (parts (u == 0xFFFD) (is_control u) (is_surrogate u) _ (shown u h)) [
  | inl e ↦ let v : u ≡ 0xFFFD = grind (arith, nat_tests) in (grind (arith, nat_tests), grind (arith, nat_tests))
  | inr e ↦ e
]

two_bytes : (u a b : ℕ) → 0x80 ≤ u → u < 0x800 → a ≡ 0xC0 + u / 64 → b ≡ 0x80 + u % 64 → split utf8 (a ∷ b ∷ []) ≡ record { items = u ∷ []; tail = [] }
unfolding split_after
two_bytes u a b low high ea eb =
    let a1 : 0xC2 ≤ a = omega arith in let a2 : a ≤ 0xDF = omega arith in let b1 : 0x80 ≤ b = omega arith in let b2 : b ≤ 0xBF = omega arith in
    let code : (a - 0xC0) * 64 + (b - 0x80) ≡ u = omega arith in
    let cut : is_cut_character (a ∷ []) ≡ true = grind (arith, nat_tests) in
    let past : (nat_le 0xE0 a && nat_le a 0xF4) ≡ false = grind (arith, nat_tests) in
    let c1 : (nat_le 0xC2 a && nat_le a 0xDF) ≡ true = grind (arith, nat_tests) in
    let c2 : (nat_le 0x80 b && nat_le b 0xBF) ≡ true = grind (arith, nat_tests) in
    (read_so utf8).whole (a ∷ []) [] b (u ∷ []) (cut, tt) (rw past refl) (rw (c1, c2, code) refl)

three_bytes : (u a b c : ℕ) → 0x800 ≤ u → u < 0x10000 → is_surrogate u ≡ false → a ≡ 0xE0 + u / 4096 → b ≡ 0x80 + u / 64 % 64 → c ≡ 0x80 + u % 64 → split utf8 (a ∷ b ∷ c ∷ []) ≡ record { items = u ∷ []; tail = [] }
unfolding split_after
three_bytes u a b c low high plain ea eb ec =
    let a1 : 0xE0 ≤ a = omega arith in let a2 : a ≤ 0xEF = omega arith in let b1 : 0x80 ≤ b = omega arith in let b2 : b ≤ 0xBF = omega arith in
    let c1 : 0x80 ≤ c = omega arith in let c2 : c ≤ 0xBF = omega arith in
    let code : (a - 0xE0) * 4096 + (b - 0x80) * 64 + (c - 0x80) ≡ u = omega arith in
    let low_second : a ≡ 0xE0 → 0xA0 ≤ b = λ e. omega arith in
    let outside : (u < 0xD800) ⊎ (0xDFFF < u) = grind (arith, nat_tests) in
    let high_second : a ≡ 0xED → b ≤ 0x9F = λ e. omega arith in
    let cut : is_cut_character (a ∷ []) ≡ true = grind (arith, nat_tests) in
    let follows : may_follow a b ≡ true = grind (arith, nat_tests) in
    let r : (nat_le 0xE0 a && nat_le a 0xF4) ≡ true = grind (arith, nat_tests) in
    let t : (nat_le 0xE0 a && nat_le a 0xEF) ≡ true = grind (arith, nat_tests) in
    let past : (nat_le 0xF0 a && nat_le a 0xF4) ≡ false = grind (arith, nat_tests) in
    let d : (nat_le 0x80 c && nat_le c 0xBF) ≡ true = grind (arith, nat_tests) in
    let second : is_cut_character (a ∷ b ∷ []) ≡ true = rw r follows in
    let third : is_cut_character (a ∷ b ∷ c ∷ []) ≡ false = rw past refl in
    let e : whole_character (a ∷ b ∷ c ∷ []) ≡ Some (u ∷ []) = whole_three u a b c t follows d code in
    (read_so utf8).whole (a ∷ b ∷ []) [] c (u ∷ []) (cut, (second, tt)) third e
  where
    whole_three : (u a b c : ℕ) → (nat_le 0xE0 a && nat_le a 0xEF) ≡ true → may_follow a b ≡ true → (nat_le 0x80 c && nat_le c 0xBF) ≡ true → (a - 0xE0) * 4096 + (b - 0x80) * 64 + (c - 0x80) ≡ u → whole_character (a ∷ b ∷ c ∷ []) ≡ Some (u ∷ [])
    whole_three u a b c t follows d code = rw (t, follows, d, code) refl

print_read : (u : ℕ) → is_control u ≡ false → split grammar (u ∷ []) ≡ record { items = Print u ∷ []; tail = [] }
unfolding is_front whole split_after
print_read u h =
    let e : (u == 0x1B) ≡ false = grind (arith, nat_tests) in let a : is_acting u ≡ false = grind (arith, nat_tests) in
    (read_so grammar).whole [] [] u (Print u ∷ []) tt (rw e refl) (rw (e, a, h) refl)

pub unit_spells : (u : ℕ) → u < 0x10000 → stored_unit u ≡ u → Spells (utf8_of u) (Print u ∷ [])
unfolding utf8_of units_of
unit_spells u fits h = by_size (nat_lt u 0x80) (nat_lt u 0x800) refl refl
  where
    plain : (is_control u ≡ false) × (is_surrogate u ≡ false)
    plain = plain_unit u h

    small : nat_lt u 0x10000 ≡ true
    small = grind (arith, nat_tests)

    as_unit : split grammar (flat_map units_of (u ∷ [])) ≡ record { items = Print u ∷ []; tail = [] }
    as_unit = rw small (print_read u plain.0)

    by_size : (a b : Bool) → nat_lt u 0x80 ≡ a → nat_lt u 0x800 ≡ b → Spells (cond a (u ∷ []) (cond b ((0xC0 + u / 64) ∷ (0x80 + u % 64) ∷ []) ((0xE0 + u / 4096) ∷ (0x80 + u / 64 % 64) ∷ (0x80 + u % 64) ∷ []))) (Print u ∷ [])
    by_size true b p q = ascii_spells (u ∷ []) (Print u ∷ []) (rw p refl) (print_read u plain.0)
    by_size false true p q = record { characters = u ∷ []; decoded = two_bytes u _ _ (grind (arith, nat_tests)) (grind (arith, nat_tests)) refl refl; read = as_unit }
    by_size false false p q = record { characters = u ∷ []; decoded = three_bytes u _ _ _ (grind (arith, nat_tests)) fits plain.1 refl refl refl; read = as_unit }

-- ---- what is written as it is

pub plain_spells : Spells (0x1B ∷ 0x5B ∷ 0x6D ∷ []) (Csi (csi [] 0x6D) ∷ [])
unfolding split_after next is_front whole kept csi_items sixteen parameters pieces
plain_spells = ascii_spells _ _ refl refl

pub return_spells : Spells (0x0D ∷ []) (Control 13 ∷ [])
unfolding split_after next is_front whole kept
return_spells = ascii_spells _ _ refl refl

pub next_row_spells : Spells (0x0D ∷ 0x0A ∷ []) (Control 13 ∷ Control 10 ∷ [])
unfolding split_after next is_front whole kept
next_row_spells = ascii_spells _ _ refl refl

pub second_row_spells : Spells (0x0D ∷ 0x0A ∷ 0x0A ∷ []) (Control 13 ∷ Control 10 ∷ Control 10 ∷ [])
unfolding split_after next is_front whole kept
second_row_spells = ascii_spells _ _ refl refl

pub backspace_spells : Spells (0x08 ∷ []) (Control 8 ∷ [])
unfolding split_after next is_front whole kept
backspace_spells = ascii_spells _ _ refl refl

pub erase_row_spells : Spells (0x1B ∷ 0x5B ∷ 0x4B ∷ []) (Csi (csi [] 0x4B) ∷ [])
unfolding split_after next is_front whole kept csi_items sixteen parameters pieces
erase_row_spells = ascii_spells _ _ refl refl

pub erase_rest_spells : Spells (0x1B ∷ 0x5B ∷ 0x4A ∷ []) (Csi (csi [] 0x4A) ∷ [])
unfolding split_after next is_front whole kept csi_items sixteen parameters pieces
erase_rest_spells = ascii_spells _ _ refl refl

pub hide_spells : Spells (0x1B ∷ 0x5B ∷ 0x3F ∷ 0x32 ∷ 0x35 ∷ 0x6C ∷ []) (Csi (question 25 0x6C) ∷ [])
unfolding split_after next is_front whole kept csi_items sixteen parameters pieces
hide_spells = ascii_spells _ _ refl refl

pub show_spells : Spells (0x1B ∷ 0x5B ∷ 0x3F ∷ 0x32 ∷ 0x35 ∷ 0x68 ∷ []) (Csi (question 25 0x68) ∷ [])
unfolding split_after next is_front whole kept csi_items sixteen parameters pieces
show_spells = ascii_spells _ _ refl refl

pub ground_spells : Spells ground_bytes ground_items
unfolding split_after next is_front whole kept csi_items sixteen parameters pieces
ground_spells = ascii_spells _ _ refl refl

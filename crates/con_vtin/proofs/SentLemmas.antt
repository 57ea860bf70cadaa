-- How many units the keys of bytes send at most.
use Rattle.std.proofs.Common.{◌≡◌, ℕ, suc, Bool, true, false, cond, ◌==◌, ◌&&◌, ◌+◌, ◌-◌, ◌/◌, ◌%◌, ◌≤◌, ◌<◌, length, lit≤, arith, List, [], ◌∷◌, ◌++◌, Option, Some, None, refl, subst, length-append}
use Rattle.std.specs.Prelude.{option_to_list, option_map, flat_map, fold, nat_lt, nat_le, not}
use Rattle.std.specs.Int.{is_in_range}
use Rattle.std.proofs.lemmas.Bool.Decides.{nat_tests}
use Rattle.std.proofs.lemmas.Grind.{flat_map-append}
use Rattle.con_units.specs.Utf8.{whole_character, may_follow, is_continuation}
use Rattle.con_units.specs.Words.Utf8.{code_of_two, code_of_three, code_of_four}
use Rattle.con_units.specs.Split.{Split, begun, next, split_after}
use Rattle.con_units.specs.Words.Split.{ended, items_or_none, read_on}
use Rattle.con_records.specs.declared.record.Key.{Key}
use Rattle.con_vtin.specs.declared.sequence.Row.{Row}
use Rattle.con_vtin.specs.declared.sequence.Row.TheVariants as rows
use Rattle.con_vtin.specs.Table.{character_keys, byte_key, pressed, with_alt, letter_key, control_sequence_key, replacement, escape, enhanced, ordinary, six_vk, page_vk, function_vk, is_modifier, modifier_state}
use Rattle.con_vtin.specs.Keys.{is_front, whole, broken, quieted, replacements, control_ends, control_whole, single_whole, alt_whole, escape_whole, escape_broken, is_last, is_empty, is_parameter, is_intermediate, front_while, skip_while}
use Rattle.con_vtin.specs.Words.Keys.{grammar}
use Rattle.con_vtin.specs.Sequences.{key_units, units_by, row_of, plain_row, modified_row, modifier_of, own_units, escaped, alt_in, ctrl_in}
use Rattle.con_vtin.specs.Words.Sequences.{sent}
use Rattle.con_vtin.specs.Counts.{SendsWithin}
use Rattle.con_vtin.proofs.Lists.{both, all_below, holds_below}
use Rattle.con_vtin.proofs.FewLemmas.{longer, few_next, few_quieted}

-- ---- one key

short_plain : (row : Row) (c : Bool) → length (plain_row row c) ≤ 5
short_plain (rows.Letter last) c = lit≤ tt
short_plain (rows.First last) c = lit≤ tt
short_plain (rows.Page d) c = lit≤ tt
short_plain (rows.Function d e) c = lit≤ tt

short_modified : (row : Row) (m : ℕ) → length (modified_row row m) ≤ 7
short_modified (rows.Letter last) m = lit≤ tt
short_modified (rows.First last) m = lit≤ tt
short_modified (rows.Page d) m = lit≤ tt
short_modified (rows.Function d e) m = lit≤ tt

short_row_by : (t : Bool) (row : Row) (m : ℕ) (c : Bool) → length (cond t (plain_row row c) (modified_row row m)) ≤ 7
short_row_by true row m c = let few = short_plain row c in omega (arith, few)
short_row_by false row m c = short_modified row m

short_page_by : (t : Bool) (d m : ℕ) (c : Bool) → length (cond t (plain_row (rows.Page d) c) (modified_row (rows.Page d) m)) ≤ 6
short_page_by true d m c = lit≤ tt
short_page_by false d m c = lit≤ tt

short_own_by : (a b x : Bool) (u : ℕ) → length (cond a ((cond x 0x08 0x7F) ∷ []) (cond b [] (u ∷ []))) ≤ 1
short_own_by true b x u = lit≤ tt
short_own_by false true x u = lit≤ tt
short_own_by false false x u = lit≤ tt

short_own : (k : Key) → length (own_units k) ≤ 1
short_own k = short_own_by (k.vk == 0x08) ((k.vk == 0) && (k.unit == 0)) (ctrl_in k.state == 1) k.unit

short_escaped : (alt : Bool) (us : List ℕ) → length (escaped alt us) ≤ length us + 1
short_escaped alt [] = lit≤ tt
short_escaped true (u ∷ us) = omega arith
short_escaped false (u ∷ us) = omega arith

bare : (us : List ℕ) → escaped false us ≡ us
bare [] = refl
bare (u ∷ us) = refl

-- any key
short_by : (o : Option Row) (k : Key) (c : Bool) → length (units_by o k c) ≤ 7
short_by (Some row) k c = short_row_by (modifier_of k.state == 0x31) row (modifier_of k.state) c
short_by None k c = let one = short_own k in let few = short_escaped (alt_in k.state == 1) (own_units k) in omega (arith, one, few)

-- a key without a modifier
short_plain_by : (o : Option Row) (vk : ℕ) (c : Bool) → length (units_by o (pressed vk 0 0) c) ≤ 5
short_plain_by (Some row) vk c = short_plain row c
short_plain_by None vk c = let one = short_own (pressed vk 0 0) in let few = short_escaped false (own_units (pressed vk 0 0)) in omega (arith, one, few)

one_key : (k : Key) (c : Bool) (n : ℕ) → length (key_units k c) ≤ n → length (sent (k ∷ []) c) ≤ n
one_key k c n le = let all = length-append (key_units k c) [] in omega (arith, all, le)

any_key : (o : Option Key) (c : Bool) → length (sent (option_to_list o) c) ≤ 7
any_key None c = lit≤ tt
any_key (Some k) c = one_key k c 7 (short_by (row_of k) k c)

plain_key : (o : Option ℕ) (c : Bool) → length (sent (option_to_list (ordinary 0 o)) c) ≤ 5
plain_key None c = lit≤ tt
plain_key (Some vk) c = one_key (pressed vk 0 0) c 5 (short_plain_by (row_of (pressed vk 0 0)) vk c)

-- ---- keys of tables, by trying each

abbrev is_short_in : Bool → ℕ → Option Key → Bool
is_short_in c n None = true
is_short_in c n (Some k) = nat_le (length (key_units k c)) n

abbrev is_short : ℕ → Option Key → Bool
is_short n o = is_short_in true n o && is_short_in false n o

short_in : (o : Option Key) (c : Bool) (n : ℕ) → is_short_in c n o ≡ true → length (sent (option_to_list o) c) ≤ n
short_in None c n h = omega arith
short_in (Some k) c n h = one_key k c n (grind (arith, nat_tests))

short_is : (o : Option Key) (c : Bool) (n : ℕ) → is_short n o ≡ true → length (sent (option_to_list o) c) ≤ n
short_is o true n h = short_in o true n (both (is_short_in true n o) (is_short_in false n o) h).0
short_is o false n h = short_in o false n (both (is_short_in true n o) (is_short_in false n o) h).1

bytes_all : all_below (λ b. is_short 1 (Some (byte_key b))) 0x80 ≡ true
bytes_all = refl

alts_all : all_below (λ b. is_short 2 (Some (with_alt (byte_key b)))) 0x80 ≡ true
alts_all = refl

letters_all : all_below (λ b. is_short 3 (letter_key 0 b)) 0x7F ≡ true
letters_all = refl

sixes_all : all_below (λ b. is_short 3 (enhanced 0 (six_vk b))) 0x7F ≡ true
sixes_all = refl

modified_all : all_below (λ i. all_below (λ b. is_short 6 (letter_key (modifier_state (0x31 + i)) b)) 0x7F) 8 ≡ true
modified_all = refl

last_is_small : (b : ℕ) → is_last b ≡ true → b < 0x7F
last_is_small b h = grind (arith, nat_tests)

modifier_within : (m : ℕ) → is_modifier m ≡ true → (m - 0x31 < 8) × (0x31 + (m - 0x31) ≡ m)
modifier_within m h = let low : 0x31 ≤ m = grind (arith, nat_tests) in let high : m ≤ 0x38 = grind (arith, nat_tests) in (omega arith, omega arith)

byte_short : (b : ℕ) (c : Bool) → nat_lt b 0x80 ≡ true → length (sent (byte_key b ∷ []) c) ≤ 1
byte_short b c h = let less : b < 0x80 = grind (arith, nat_tests) in short_is (Some (byte_key b)) c 1 (holds_below (λ b. is_short 1 (Some (byte_key b))) 0x80 bytes_all b less)

alt_short : (b : ℕ) (c : Bool) → nat_lt b 0x80 ≡ true → length (sent (with_alt (byte_key b) ∷ []) c) ≤ 2
alt_short b c h = let less : b < 0x80 = grind (arith, nat_tests) in short_is (Some (with_alt (byte_key b))) c 2 (holds_below (λ b. is_short 2 (Some (with_alt (byte_key b)))) 0x80 alts_all b less)

letter_short : (b : ℕ) (c : Bool) → is_last b ≡ true → length (sent (option_to_list (letter_key 0 b)) c) ≤ 3
letter_short b c h = short_is (letter_key 0 b) c 3 (holds_below (λ b. is_short 3 (letter_key 0 b)) 0x7F letters_all b (last_is_small b h))

six_short : (b : ℕ) (c : Bool) → is_last b ≡ true → length (sent (option_to_list (enhanced 0 (six_vk b))) c) ≤ 3
six_short b c h = short_is (enhanced 0 (six_vk b)) c 3 (holds_below (λ b. is_short 3 (enhanced 0 (six_vk b))) 0x7F sixes_all b (last_is_small b h))

modified_short : (b m : ℕ) (c : Bool) → is_last b ≡ true → is_modifier m ≡ true → length (sent (option_to_list (letter_key (modifier_state m) b)) c) ≤ 6
modified_short b m c h k =
    let within = modifier_within m k in
    let all = holds_below (λ i. all_below (λ b. is_short 6 (letter_key (modifier_state (0x31 + i)) b)) 0x7F) 8 modified_all (m - 0x31) within.0 in
    let one = holds_below (λ b. is_short 6 (letter_key (modifier_state (0x31 + (m - 0x31))) b)) 0x7F all b (last_is_small b h) in
    let P : ℕ → Type 0 = λ n. is_short 6 (letter_key (modifier_state n) b) ≡ true in
    short_is (letter_key (modifier_state m) b) c 6 (subst P within.1 one)

-- ---- control sequences

page_by : (a b c d : Bool) (state : ℕ) (mode : Bool) → length (sent (option_to_list (enhanced state (cond a (Some 0x2D) (cond b (Some 0x2E) (cond c (Some 0x21) (cond d (Some 0x22) None)))))) mode) ≤ 6
page_by true b c d state mode = one_key (pressed 0x2D 0 (0x100 + state)) mode 6 (short_page_by (modifier_of (0x100 + state) == 0x31) 0x32 (modifier_of (0x100 + state)) mode)
page_by false true c d state mode = one_key (pressed 0x2E 0 (0x100 + state)) mode 6 (short_page_by (modifier_of (0x100 + state) == 0x31) 0x33 (modifier_of (0x100 + state)) mode)
page_by false false true d state mode = one_key (pressed 0x21 0 (0x100 + state)) mode 6 (short_page_by (modifier_of (0x100 + state) == 0x31) 0x35 (modifier_of (0x100 + state)) mode)
page_by false false false true state mode = one_key (pressed 0x22 0 (0x100 + state)) mode 6 (short_page_by (modifier_of (0x100 + state) == 0x31) 0x36 (modifier_of (0x100 + state)) mode)
page_by false false false false state mode = lit≤ tt

plain_page_by : (a b c d : Bool) (mode : Bool) → length (sent (option_to_list (enhanced 0 (cond a (Some 0x2D) (cond b (Some 0x2E) (cond c (Some 0x21) (cond d (Some 0x22) None)))))) mode) ≤ 4
plain_page_by true b c d mode = lit≤ tt
plain_page_by false true c d mode = lit≤ tt
plain_page_by false false true d mode = lit≤ tt
plain_page_by false false false true mode = lit≤ tt
plain_page_by false false false false mode = lit≤ tt

-- the key of a test, or none
when_short : (t : Bool) (o : Option Key) (c : Bool) (n : ℕ) → (t ≡ true → length (sent (option_to_list o) c) ≤ n) → length (sent (option_to_list (cond t o None)) c) ≤ n
when_short true o c n f = f refl
when_short false o c n f = omega arith

either_short : (s t : Bool) (o p : Option Key) (c : Bool) (n : ℕ) → length (sent (option_to_list o) c) ≤ n → length (sent (option_to_list p) c) ≤ n → length (sent (option_to_list (cond s o (cond t p None))) c) ≤ n
either_short true t o p c n h k = h
either_short false true o p c n h k = k
either_short false false o p c n h k = omega arith

control_key_short : (body : List ℕ) (last : ℕ) (c : Bool) → is_last last ≡ true → length (sent (option_to_list (control_sequence_key body last)) c) ≤ length body + 3
control_key_short [] last c h = six_short last c h
control_key_short (d ∷ []) last c h = when_short (last == 0x7E) (enhanced 0 (page_vk d)) c 4 (λ t. plain_page_by (d == 0x32) (d == 0x33) (d == 0x35) (d == 0x36) c)
control_key_short (d ∷ e ∷ []) last c h = when_short (last == 0x7E) (ordinary 0 (function_vk d e)) c 5 (λ t. plain_key (function_vk d e) c)
control_key_short (d ∷ s ∷ m ∷ []) last c h = when_short ((s == 0x3B) && is_modifier m) (cond (last == 0x7E) (enhanced (modifier_state m) (page_vk d)) (cond (d == 0x31) (letter_key (modifier_state m) last) None)) c 6
    (λ t. either_short (last == 0x7E) (d == 0x31) (enhanced (modifier_state m) (page_vk d)) (letter_key (modifier_state m) last) c 6
    (page_by (d == 0x32) (d == 0x33) (d == 0x35) (d == 0x36) (modifier_state m) c) (modified_short last m c h (both (s == 0x3B) (is_modifier m) t).1))
control_key_short (d ∷ e ∷ s ∷ m ∷ []) last c h = any_key (control_sequence_key (d ∷ e ∷ s ∷ m ∷ []) last) c
control_key_short (d ∷ e ∷ s ∷ m ∷ x ∷ more) last c h = omega arith

-- ---- whole sequences

abbrev HasShort : Bool → Option (List Key) → ℕ → Type 0
HasShort c None n = Unit {0}
HasShort c (Some items) n = length (sent items c) ≤ n

short_if : (b c : Bool) (n : ℕ) (x y : Option (List Key)) → HasShort c x n → HasShort c y n → HasShort c (cond b x y) n
short_if true c n x y p q = p
short_if false c n x y p q = q

short_when : (b c : Bool) (n : ℕ) (items : List Key) → (b ≡ true → length (sent items c) ≤ n) → HasShort c (cond b (Some items) None) n
short_when true c n items f = f refl
short_when false c n items f = tt

short_more : (o : Option (List Key)) (c : Bool) (m n : ℕ) → m ≤ n → HasShort c o m → HasShort c o n
short_more None c m n le h = tt
short_more (Some items) c m n le h = omega (arith, le, h)

control_short : (body rest : List ℕ) (c : Bool) → HasShort c (control_ends body rest) (length body + length rest + 2)
control_short body [] c = tt
control_short body (last ∷ []) c = short_when (is_last last) c (length body + 1 + 2) (option_to_list (control_sequence_key body last))
    (λ t. let few = control_key_short body last c t in omega (arith, few))
control_short body (last ∷ b ∷ bs) c = tt

parts_by : (t : Bool) (x : ℕ) (xs front rest : List ℕ) → length front + length rest ≡ length xs → length (cond t (x ∷ front) []) + length (cond t rest (x ∷ xs)) ≡ suc (length xs)
parts_by true x xs front rest e = omega (arith, e)
parts_by false x xs front rest e = omega arith

-- what is skipped, and what is not
parts : (p : ℕ → Bool) (xs : List ℕ) → length (front_while p xs) + length (skip_while p xs) ≡ length xs
parts p [] = refl
parts p (x ∷ xs) = parts_by (p x) x xs (front_while p xs) (skip_while p xs) (parts p xs)

control_whole_short : (bytes : List ℕ) (c : Bool) → HasShort c (control_whole bytes) (length bytes + 2)
control_whole_short bytes c =
    let first = parts is_parameter bytes in
    let second = parts is_intermediate (skip_while is_parameter bytes) in
    let all = length-append (front_while is_parameter bytes) (front_while is_intermediate (skip_while is_parameter bytes)) in
    short_more (control_whole bytes) c (length (front_while is_parameter bytes ++ front_while is_intermediate (skip_while is_parameter bytes)) + length (skip_while is_intermediate (skip_while is_parameter bytes)) + 2) (length bytes + 2)
    (omega (arith, first, second, all))
    (control_short (front_while is_parameter bytes ++ front_while is_intermediate (skip_while is_parameter bytes)) (skip_while is_intermediate (skip_while is_parameter bytes)) c)

single_short : (bs : List ℕ) (c : Bool) → HasShort c (single_whole bs) (length bs + 2)
single_short [] c = tt
single_short (last ∷ []) c = short_when (is_last last) c 3 (option_to_list (letter_key 0 last)) (λ t. letter_short last c t)
single_short (last ∷ b ∷ bs) c = tt

alt_whole_short : (b : ℕ) (bs : List ℕ) (c : Bool) → HasShort c (alt_whole b bs) 2
alt_whole_short b [] c = short_when (nat_lt b 0x80 && not (b == 0x1B)) c 2 (with_alt (byte_key b) ∷ []) (λ t. alt_short b c (both (nat_lt b 0x80) (not (b == 0x1B)) t).0)
alt_whole_short b (d ∷ bs) c = tt

escape_short : (bs : List ℕ) (c : Bool) → HasShort c (escape_whole bs) (length bs + 1)
escape_short [] c = tt
escape_short (b ∷ bs) c = short_more (cond (b == 0x5B) (control_whole bs) (cond (b == 0x4F) (single_whole bs) (alt_whole b bs))) c (length bs + 2) (length (b ∷ bs) + 1) (omega arith)
    (short_if (b == 0x5B) c (length bs + 2) (control_whole bs) (cond (b == 0x4F) (single_whole bs) (alt_whole b bs)) (control_whole_short bs c)
    (short_if (b == 0x4F) c (length bs + 2) (single_whole bs) (alt_whole b bs) (single_short bs c)
    (short_more (alt_whole b bs) c 2 (length bs + 2) (omega arith) (alt_whole_short b bs c))))

-- ---- characters

sent_append : (ks ls : List Key) (c : Bool) → length (sent (ks ++ ls) c) ≡ length (sent ks c) + length (sent ls c)
sent_append ks ls c = rw (flat_map-append (λ k. key_units k c) ks ls) (length-append (sent ks c) (sent ls c))

unit_by : (t c : Bool) (u : ℕ) → length (units_by (cond t None None) (pressed 0 u 0) c) ≤ 1
unit_by true c u = rw (bare (own_units (pressed 0 u 0))) (short_own (pressed 0 u 0))
unit_by false c u = rw (bare (own_units (pressed 0 u 0))) (short_own (pressed 0 u 0))

unit_short : (u : ℕ) (c : Bool) → length (sent (pressed 0 u 0 ∷ []) c) ≤ 1
unit_short u c = one_key (pressed 0 u 0) c 1 (unit_by (u == 0) c u)

two_units : (u v : ℕ) (c : Bool) → length (sent (pressed 0 u 0 ∷ pressed 0 v 0 ∷ []) c) ≤ 2
two_units u v c =
    let first = unit_short u c in
    let second = unit_short v c in
    let all = sent_append (pressed 0 u 0 ∷ []) (pressed 0 v 0 ∷ []) c in
    omega (arith, first, second, all)

none_after : (ks : List Key) (c : Bool) (n : ℕ) → length (sent ks c) ≤ n → length (sent (ks ++ []) c) ≤ n
none_after ks c n le = let all = sent_append ks [] c in omega (arith, all, le)

character_by : (a b : Bool) (d : ℕ) (c : Bool) → nat_lt d 0x80 ≡ a
    → length (sent (cond a (byte_key d ∷ []) (cond b (pressed 0 d 0 ∷ []) (pressed 0 (0xD800 + (d - 0x10000) / 0x400) 0 ∷ pressed 0 (0xDC00 + (d - 0x10000) % 0x400) 0 ∷ []))) c) ≤ 2
character_by true b d c h = let few = byte_short d c h in omega (arith, few)
character_by false true d c h = let few = unit_short d c in omega (arith, few)
character_by false false d c h = two_units (0xD800 + (d - 0x10000) / 0x400) (0xDC00 + (d - 0x10000) % 0x400) c

character_short : (d : ℕ) (c : Bool) → length (sent (flat_map character_keys (d ∷ [])) c) ≤ 2
character_short d c = none_after (character_keys d) c 2 (character_by (nat_lt d 0x80) (nat_lt d 0x10000) d c refl)

ascii_short : (d : ℕ) (c : Bool) → nat_lt d 0x80 ≡ true → length (sent (flat_map character_keys (d ∷ [])) c) ≤ 1
ascii_short d c small = rw small (byte_short d c small)

text_by : (t : Bool) (d n : ℕ) (c : Bool) → 2 ≤ n → HasShort c (option_map (flat_map character_keys) (cond t (Some (d ∷ [])) None)) n
text_by true d n c le = let few = character_short d c in omega (arith, few, le)
text_by false d n c le = tt

text_short : (bytes : List ℕ) (c : Bool) → HasShort c (option_map (flat_map character_keys) (whole_character bytes)) (length bytes)
text_short [] c = tt
text_short (a ∷ []) c = by_ascii (nat_lt a 0x80) refl
  where
    by_ascii : (b : Bool) → nat_lt a 0x80 ≡ b → HasShort c (option_map (flat_map character_keys) (cond b (Some (a ∷ [])) (Some (0xFFFD ∷ [])))) 1
    by_ascii true small = ascii_short a c small
    by_ascii false small = unit_short 0xFFFD c
text_short (a ∷ b ∷ []) c = text_by (is_in_range 0xC2 0xDF a && is_continuation b) (code_of_two a b) 2 c (omega arith)
text_short (a ∷ b ∷ d ∷ []) c = text_by (is_in_range 0xE0 0xEF a && may_follow a b && is_continuation d) (code_of_three a b d) 3 c (omega arith)
text_short (a ∷ b ∷ d ∷ e ∷ []) c = text_by (is_in_range 0xF0 0xF4 a && may_follow a b && is_continuation d && is_continuation e) (code_of_four a b d e) 4 c (omega arith)
text_short (a ∷ b ∷ d ∷ e ∷ f ∷ bs) c = tt

whole_by : (t : Bool) (b : ℕ) (bs : List ℕ) (c : Bool) → HasShort c (cond t (escape_whole bs) (option_map (flat_map character_keys) (whole_character (b ∷ bs)))) (length bs + 1)
whole_by true b bs c = escape_short bs c
whole_by false b bs c = short_more (option_map (flat_map character_keys) (whole_character (b ∷ bs))) c (length (b ∷ bs)) (length bs + 1) (omega arith) (text_short (b ∷ bs) c)

-- the keys of a whole sequence send no more units than it has bytes
whole_short : (bytes : List ℕ) (c : Bool) → HasShort c (whole bytes) (length bytes)
unfolding whole
whole_short [] c = tt
whole_short (b ∷ bs) c = short_more (cond (b == 0x1B) (escape_whole bs) (option_map (flat_map character_keys) (whole_character (b ∷ bs)))) c (length bs + 1) (length (b ∷ bs)) (omega arith) (whole_by (b == 0x1B) b bs c)

-- ---- what is broken off, or quiet

replacements_short : (bytes : List ℕ) (c : Bool) → length (sent (replacements bytes) c) ≤ length bytes
replacements_short [] c = lit≤ tt
replacements_short (b ∷ bs) c =
    let first = unit_short 0xFFFD c in
    let rest = replacements_short bs c in
    let all = sent_append (replacement ∷ []) (replacements bs) c in
    omega (arith, first, rest, all)

escape_broken_short : (bs : List ℕ) (c : Bool) → length (sent (escape_broken bs) c) ≤ length bs + 1
escape_broken_short [] c = lit≤ tt
escape_broken_short (b ∷ bs) c = let few = replacements_short (b ∷ b ∷ bs) c in omega (arith, few)

broken_by : (t : Bool) (bs : List ℕ) (c : Bool) → length (sent (cond t (escape_broken bs) (replacement ∷ [])) c) ≤ length bs + 1
broken_by true bs c = escape_broken_short bs c
broken_by false bs c = let few = unit_short 0xFFFD c in omega (arith, few)

broken_short : (bytes : List ℕ) (c : Bool) → length (sent (broken bytes) c) ≤ length bytes
unfolding broken
broken_short [] c = lit≤ tt
broken_short (b ∷ bs) c = let few = broken_by (b == 0x1B) bs c in omega (arith, few)

quieted_by : (t : Bool) (b : ℕ) (bs : List ℕ) (c : Bool) → length (sent (cond t (escape ∷ []) (replacements (b ∷ bs))) c) ≤ length (b ∷ bs)
quieted_by true b bs c = omega arith
quieted_by false b bs c = replacements_short (b ∷ bs) c

quieted_short : (bytes : List ℕ) (c : Bool) → length (sent (quieted bytes) c) ≤ length bytes
quieted_short [] c = lit≤ tt
quieted_short (b ∷ bs) c = quieted_by ((b == 0x1B) && is_empty bs) b bs c

-- ---- a byte more

items_short : (o : Option (List Key)) (c : Bool) (n : ℕ) → HasShort c o n → length (sent (items_or_none o) c) ≤ n
items_short None c n h = omega arith
items_short (Some items) c n h = h

begun_by : (t : Bool) (u : ℕ) (items : List Key) (c : Bool) → length (sent items c) ≤ 1
    → let s : Split Key = cond t (record { items = []; tail = u ∷ [] }) (record { items = items; tail = [] }) in length (sent s.items c) + length s.tail ≤ 1
begun_by true u items c le = lit≤ tt
begun_by false u items c le = omega (arith, le)

begun_short : (u : ℕ) (c : Bool) → length (sent (begun grammar u).items c) + length (begun grammar u).tail ≤ 1
begun_short u c = begun_by (is_front (u ∷ [])) u (items_or_none (whole (u ∷ []))) c (items_short (whole (u ∷ [])) c 1 (whole_short (u ∷ []) c))

ended_short : (v : ℕ) (front : List ℕ) (u : ℕ) (o : Option (List Key)) (c : Bool) → HasShort c o (length front + 2)
    → length (sent (ended grammar (v ∷ front) u o).items c) + length (ended grammar (v ∷ front) u o).tail ≤ length front + 2
ended_short v front u (Some items) c h = omega (arith, h)
ended_short v front u None c h =
    let one = begun_short u c in
    let all = sent_append (broken (v ∷ front)) (begun grammar u).items c in
    let few = broken_short (v ∷ front) c in
    omega (arith, one, all, few)

next_by : (t : Bool) (v : ℕ) (front : List ℕ) (u : ℕ) (o : Option (List Key)) (c : Bool) → HasShort c o (length front + 2)
    → let s : Split Key = cond t (record { items = []; tail = v ∷ front ++ u ∷ [] }) (ended grammar (v ∷ front) u o) in length (sent s.items c) + length s.tail ≤ length front + 2
next_by true v front u o c h = let all = longer front u in omega (arith, all)
next_by false v front u o c h = ended_short v front u o c h

-- a byte's keys send no more units than there are bytes held, and itself, less those that are held then
pub next_short : (held : List ℕ) (u : ℕ) (c : Bool) → length (sent (next grammar held u).items c) + length (next grammar held u).tail ≤ length held + 1
unfolding next
next_short [] u c = begun_short u c
next_short (v ∷ front) u c =
    let all = longer front u in
    let few = next_by (is_front (v ∷ front ++ u ∷ [])) v front u (whole (v ∷ front ++ u ∷ [])) c
    (short_more (whole (v ∷ front ++ u ∷ [])) c (length (v ∷ front ++ u ∷ [])) (length front + 2) (omega (arith, all)) (whole_short (v ∷ front ++ u ∷ []) c)) in
    omega (arith, few)

pub fed_short : (before after : List Key) (held tail : List ℕ) (u : ℕ) (c : Bool) → after ≡ before ++ (next grammar held u).items → tail ≡ (next grammar held u).tail
    → length (sent after c) + length tail ≤ length (sent before c) + length held + 1
fed_short before after held tail u c is left =
    let few = next_short held u c in
    let all = sent_append before (next grammar held u).items c in
    rw (is, left) (omega (arith, few, all))

pub quiet_short : (before after : List Key) (held : List ℕ) (c : Bool) → after ≡ before ++ quieted held → length (sent after c) ≤ length (sent before c) + length held
quiet_short before after held c is =
    let few = quieted_short held c in
    let all = sent_append before (quieted held) c in
    rw is (omega (arith, few, all))

-- ---- all bytes

keys_from : (s : Split Key) (bytes : List ℕ) (n : ℕ) → length s.items + length s.tail ≤ n
    → length (fold (read_on grammar) s bytes).items + length (fold (read_on grammar) s bytes).tail ≤ n + length bytes
keys_from s [] n le = omega (arith, le)
keys_from s (b ∷ bytes) n le =
    let few = few_next s.tail b in
    let all = length-append s.items (next grammar s.tail b).items in
    let rest = keys_from (read_on grammar s b) bytes (n + 1) (omega (arith, le, few, all)) in
    omega (arith, rest)

units_from : (s : Split Key) (bytes : List ℕ) (c : Bool) (n : ℕ) → length (sent s.items c) + length s.tail ≤ n
    → length (sent (fold (read_on grammar) s bytes).items c) + length (fold (read_on grammar) s bytes).tail ≤ n + length bytes
units_from s [] c n le = omega (arith, le)
units_from s (b ∷ bytes) c n le =
    let short = next_short s.tail b c in
    let all = sent_append s.items (next grammar s.tail b).items c in
    let rest = units_from (read_on grammar s b) bytes c (n + 1) (omega (arith, le, short, all)) in
    omega (arith, rest)

pub sends_within : SendsWithin
unfolding split_after
sends_within = record {
  keys = λ held bytes. keys_from (record { items = []; tail = held }) bytes (length held) (omega arith);
  units = λ held bytes c. units_from (record { items = []; tail = held }) bytes c (length held) (omega arith);
  quiet_keys = few_quieted;
  quiet_units = quieted_short;
}

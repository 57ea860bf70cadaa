-- How many keys bytes give at most.
use Rattle.std.proofs.Common.{◌≡◌, ℕ, Bool, true, false, cond, ◌==◌, ◌&&◌, ◌+◌, ◌-◌, ◌/◌, ◌%◌, ◌≤◌, length, lit≤, arith, List, [], ◌∷◌, ◌++◌, Option, Some, None, refl, length-append}
use Rattle.std.specs.Prelude.{option_to_list, option_map, flat_map, nat_lt, not, suc}
use Rattle.std.specs.Int.{is_in_range}
use Rattle.con_units.specs.Utf8.{whole_character, may_follow, is_continuation}
use Rattle.con_units.specs.Words.Utf8.{code_of_two, code_of_three, code_of_four}
use Rattle.con_units.specs.Split.{Split, begun, next}
use Rattle.con_units.specs.Words.Split.{ended, items_or_none}
use Rattle.con_records.specs.declared.record.Key.{Key}
use Rattle.con_vtin.specs.Table.{character_keys, byte_key, pressed, with_alt, letter_key, control_sequence_key, replacement, escape}
use Rattle.con_vtin.specs.Keys.{is_front, whole, broken, quieted, replacements, control_ends, control_whole, single_whole, alt_whole, escape_whole, escape_broken, is_last, is_empty, is_parameter, is_intermediate, front_while, skip_while}
use Rattle.con_vtin.specs.Words.Keys.{grammar}

abbrev pub HasFew : Option (List Key) → ℕ → Type 0
HasFew None n = Unit {0}
HasFew (Some items) n = length items ≤ n

few_if : (b : Bool) (n : ℕ) (x y : Option (List Key)) → HasFew x n → HasFew y n → HasFew (cond b x y) n
few_if true n x y p q = p
few_if false n x y p q = q

few_more : (o : Option (List Key)) (m n : ℕ) → m ≤ n → HasFew o m → HasFew o n
few_more None m n le h = tt
few_more (Some items) m n le h = omega arith

one_or_none : (o : Option Key) → length (option_to_list o) ≤ 1
one_or_none None = omega arith
one_or_none (Some k) = omega arith

few_control : (body rest : List ℕ) → HasFew (control_ends body rest) 1
few_control body [] = tt
few_control body (last ∷ []) = few_if (is_last last) 1 (Some (option_to_list (control_sequence_key body last))) None (one_or_none (control_sequence_key body last)) tt
few_control body (last ∷ b ∷ bs) = tt

few_single : (bs : List ℕ) → HasFew (single_whole bs) 1
few_single [] = tt
few_single (last ∷ []) = few_if (is_last last) 1 (Some (option_to_list (letter_key 0 last))) None (one_or_none (letter_key 0 last)) tt
few_single (last ∷ b ∷ bs) = tt

few_alt : (b : ℕ) (bs : List ℕ) → HasFew (alt_whole b bs) 1
few_alt b [] = few_if (nat_lt b 0x80 && not (b == 0x1B)) 1 (Some (with_alt (byte_key b) ∷ [])) None (lit≤ tt) tt
few_alt b (c ∷ bs) = tt

few_escape : (bs : List ℕ) → HasFew (escape_whole bs) 1
few_escape [] = tt
few_escape (b ∷ bs) = few_if (b == 0x5B) 1 (control_whole bs) (cond (b == 0x4F) (single_whole bs) (alt_whole b bs))
    (few_control (front_while is_parameter bs ++ front_while is_intermediate (skip_while is_parameter bs)) (skip_while is_intermediate (skip_while is_parameter bs)))
    (few_if (b == 0x4F) 1 (single_whole bs) (alt_whole b bs) (few_single bs) (few_alt b bs))

by_size : (a b : Bool) (k l m n : Key) → length (cond a (k ∷ []) (cond b (l ∷ []) (m ∷ n ∷ [])) ++ []) ≤ 2
by_size true b k l m n = omega arith
by_size false true k l m n = omega arith
by_size false false k l m n = omega arith

few_character : (c : ℕ) → length (flat_map character_keys (c ∷ [])) ≤ 2
few_character c = by_size (nat_lt c 0x80) (nat_lt c 0x10000) (byte_key c) (pressed 0 c 0) (pressed 0 (0xD800 + (c - 0x10000) / 0x400) 0) (pressed 0 (0xDC00 + (c - 0x10000) % 0x400) 0)

one_character : (c : ℕ) → nat_lt c 0x80 ≡ true → length (flat_map character_keys (c ∷ [])) ≤ 1
one_character c small = rw small (omega arith)

few_by : (t : Bool) (c n : ℕ) → 2 ≤ n → HasFew (option_map (flat_map character_keys) (cond t (Some (c ∷ [])) None)) n
few_by true c n le = let few = few_character c in omega (arith, few)
few_by false c n le = tt

few_text : (bytes : List ℕ) → HasFew (option_map (flat_map character_keys) (whole_character bytes)) (length bytes)
few_text [] = tt
few_text (a ∷ []) = by_ascii (nat_lt a 0x80) refl
  where
    by_ascii : (b : Bool) → nat_lt a 0x80 ≡ b → HasFew (option_map (flat_map character_keys) (cond b (Some (a ∷ [])) (Some (0xFFFD ∷ [])))) 1
    by_ascii true small = one_character a small
    by_ascii false small = omega arith
few_text (a ∷ b ∷ []) = few_by (is_in_range 0xC2 0xDF a && is_continuation b) (code_of_two a b) 2 (omega arith)
few_text (a ∷ b ∷ c ∷ []) = few_by (is_in_range 0xE0 0xEF a && may_follow a b && is_continuation c) (code_of_three a b c) 3 (omega arith)
few_text (a ∷ b ∷ c ∷ d ∷ []) = few_by (is_in_range 0xF0 0xF4 a && may_follow a b && is_continuation c && is_continuation d) (code_of_four a b c d) 4 (omega arith)
few_text (a ∷ b ∷ c ∷ d ∷ e ∷ bs) = tt

few_whole_by : (t : Bool) (b : ℕ) (bs : List ℕ) → HasFew (cond t (escape_whole bs) (option_map (flat_map character_keys) (whole_character (b ∷ bs)))) (suc (length bs))
few_whole_by true b bs = few_more (escape_whole bs) 1 (suc (length bs)) (omega arith) (few_escape bs)
few_whole_by false b bs = few_text (b ∷ bs)

-- a whole sequence gives no more keys than it has bytes
few_whole : (bytes : List ℕ) → HasFew (whole bytes) (length bytes)
unfolding whole
few_whole [] = tt
few_whole (b ∷ bs) = few_whole_by (b == 0x1B) b bs

few_replacements : (bytes : List ℕ) → length (replacements bytes) ≡ length bytes
few_replacements [] = refl
few_replacements (b ∷ bs) = let rest = few_replacements bs in omega (arith, rest)

few_broken_by : (t : Bool) (bs : List ℕ) (k : Key) → length (cond t (escape_broken bs) (k ∷ [])) ≤ suc (length bs)
few_broken_by true [] k = omega arith
few_broken_by true (b ∷ bs) k = let all = few_replacements bs in omega (arith, all)
few_broken_by false bs k = omega arith

few_broken : (bytes : List ℕ) → length (broken bytes) ≤ length bytes
unfolding broken
few_broken [] = omega arith
few_broken (b ∷ bs) = few_broken_by (b == 0x1B) bs replacement

few_items : (o : Option (List Key)) (n : ℕ) → HasFew o n → length (items_or_none o) ≤ n
few_items None n h = omega arith
few_items (Some items) n h = h

begun_by : (t : Bool) (u : ℕ) (items : List Key) → length items ≤ 1 → let s : Split Key = cond t (record { items = []; tail = u ∷ [] }) (record { items = items; tail = [] }) in length s.items + length s.tail ≤ 1
begun_by true u items le = omega arith
begun_by false u items le = omega arith

few_begun : (u : ℕ) → length (begun grammar u).items + length (begun grammar u).tail ≤ 1
few_begun u = begun_by (is_front (u ∷ [])) u (items_or_none (whole (u ∷ []))) (few_items (whole (u ∷ [])) 1 (few_whole (u ∷ [])))

few_ended : (v : ℕ) (front : List ℕ) (u : ℕ) (o : Option (List Key)) → HasFew o (length front + 2) → length (ended grammar (v ∷ front) u o).items + length (ended grammar (v ∷ front) u o).tail ≤ length front + 2
few_ended v front u (Some items) h = omega (arith, h)
few_ended v front u None h =
    let one = few_begun u in
    let all = length-append (broken (v ∷ front)) (begun grammar u).items in
    let few = few_broken (v ∷ front) in
    omega (arith, one, all, few)

pub longer : (front : List ℕ) (u : ℕ) → length (front ++ u ∷ []) ≡ length front + 1
longer front u = let all = length-append front (u ∷ []) in omega (arith, all)

next_by : (t : Bool) (v : ℕ) (front : List ℕ) (u : ℕ) (o : Option (List Key)) → HasFew o (length front + 2)
    → let s : Split Key = cond t (record { items = []; tail = v ∷ front ++ u ∷ [] }) (ended grammar (v ∷ front) u o) in length s.items + length s.tail ≤ length front + 2
next_by true v front u o h = let all = longer front u in omega (arith, all)
next_by false v front u o h = few_ended v front u o h

-- a byte gives no more keys than there are bytes held, and itself, less those that are held then
pub few_next : (held : List ℕ) (u : ℕ) → length (next grammar held u).items + length (next grammar held u).tail ≤ length held + 1
unfolding next
few_next [] u = few_begun u
few_next (v ∷ front) u =
    let all = longer front u in
    let few = next_by (is_front (v ∷ front ++ u ∷ [])) v front u (whole (v ∷ front ++ u ∷ [])) (few_more (whole (v ∷ front ++ u ∷ [])) (length (v ∷ front ++ u ∷ [])) (length front + 2) (omega (arith, all)) (few_whole (v ∷ front ++ u ∷ []))) in
    omega (arith, few)

pub fed_few : (before after : List Key) (held tail : List ℕ) (u : ℕ) → after ≡ before ++ (next grammar held u).items → tail ≡ (next grammar held u).tail → length after + length tail ≤ length before + length held + 1
fed_few before after held tail u is left =
    let few = few_next held u in
    let all = length-append before (next grammar held u).items in
    rw (is, left) (omega (arith, few, all))

quieted_by : (t : Bool) (b : ℕ) (bs : List ℕ) (k : Key) → length (cond t (k ∷ []) (replacements (b ∷ bs))) ≤ suc (length bs)
quieted_by true b bs k = omega arith
quieted_by false b bs k = let all = few_replacements bs in omega (arith, all)

pub few_quieted : (bytes : List ℕ) → length (quieted bytes) ≤ length bytes
few_quieted [] = omega arith
few_quieted (b ∷ bs) = quieted_by ((b == 0x1B) && is_empty bs) b bs escape

pub quiet_few : (before after : List Key) (held : List ℕ) → after ≡ before ++ quieted held → length after ≤ length before + length held
quiet_few before after held is =
    let few = few_quieted held in
    let all = length-append before (quieted held) in
    rw is (omega (arith, few, all))

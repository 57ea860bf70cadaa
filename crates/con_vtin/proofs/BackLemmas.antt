-- Keys are read back from the units that they send, by trying each.
use Rattle.std.proofs.Common.{◌≡◌, ℕ, ◌+◌, ◌-◌, ◌<◌, ◌≤◌, Bool, true, false, cond, ◌==◌, ◌&&◌, ◌||◌, List, [], ◌∷◌, Option, Some, None, refl, sym, ap, arith, subst, lit≤, lit<}
use Rattle.std.specs.Int.{is_in_range}
use Rattle.std.proofs.lemmas.Bool.Decides.{nat_tests}
use Rattle.con_units.specs.Split.{Split, next, split_after}
use Rattle.con_records.specs.declared.record.Key.{Key}
use Rattle.con_vtin.specs.Table.{pressed, byte_key, with_alt, control_sequence_key, letter_key, enhanced, ordinary, six_vk, page_vk, teen_vk, twenty_vk, function_vk, first_vk, is_modifier, modifier_state, or_else}
use Rattle.con_vtin.specs.Keys.{is_front, whole, broken}
use Rattle.con_vtin.specs.Words.Keys.{keys}
use Rattle.con_vtin.specs.Sequences.{key_units}
use Rattle.con_vtin.specs.ReadBack.{IsReadBack, IsReadAs, ReadBack}
use Rattle.con_vtin.proofs.Lists.{both, all_below, holds_below}

-- ---- a test for one key

abbrev same_bool : Bool → Bool → Bool
same_bool true b = b
same_bool false true = false
same_bool false false = true

abbrev same_key : Key → Key → Bool
same_key a b = ((a.vk == b.vk) && ((a.unit == b.unit) && (a.state == b.state))) && ((a.repeat == b.repeat) && ((a.scan == b.scan) && same_bool a.down b.down))

abbrev just_by : Key → List Key → List ℕ → Bool
just_by k [] left = false
just_by k (x ∷ []) [] = same_key k x
just_by k (x ∷ []) (b ∷ bs) = false
just_by k (x ∷ y ∷ xs) left = false

abbrev is_just : Key → Split Key → Bool
is_just k s = just_by k s.items s.tail

abbrev is_read_back : Key → Bool
is_read_back k = is_just k (keys (key_units k true)) && is_just k (keys (key_units k false))

same_number : (a b : ℕ) → (a == b) ≡ true → a ≡ b
same_number a b h = grind (arith, nat_tests)

same_down : (a b : Bool) → same_bool a b ≡ true → a ≡ b
same_down true true h = refl
same_down true false h = cc
same_down false true h = cc
same_down false false h = refl

same_is : (a b : Key) → same_key a b ≡ true → b ≡ a
same_is a b h =
    let parts = both ((a.vk == b.vk) && ((a.unit == b.unit) && (a.state == b.state))) ((a.repeat == b.repeat) && ((a.scan == b.scan) && same_bool a.down b.down)) h in
    let first = both (a.vk == b.vk) ((a.unit == b.unit) && (a.state == b.state)) parts.0 in
    let second = both (a.unit == b.unit) (a.state == b.state) first.1 in
    let third = both (a.repeat == b.repeat) ((a.scan == b.scan) && same_bool a.down b.down) parts.1 in
    let fourth = both (a.scan == b.scan) (same_bool a.down b.down) third.1 in
    let vk = sym (same_number a.vk b.vk first.0) in
    let unit = sym (same_number a.unit b.unit second.0) in
    let state = sym (same_number a.state b.state second.1) in
    let repeat = sym (same_number a.repeat b.repeat third.0) in
    let scan = sym (same_number a.scan b.scan fourth.0) in
    let down = sym (same_down a.down b.down fourth.1) in
    λ i. record { down = down i; repeat = repeat i; vk = vk i; scan = scan i; unit = unit i; state = state i }

just_by_is : (k : Key) (items : List Key) (left : List ℕ) → just_by k items left ≡ true → ◌≡◌ {A = Split Key} (record { items = items; tail = left }) (record { items = k ∷ []; tail = [] })
just_by_is k [] left h = cc
just_by_is k (x ∷ []) [] h = ap (λ y. record { items = y ∷ []; tail = [] }) (same_is k x h)
just_by_is k (x ∷ []) (b ∷ bs) h = cc
just_by_is k (x ∷ y ∷ xs) left h = cc

back_is : (k : Key) → is_read_back k ≡ true → IsReadBack k
back_is k h true = just_by_is k (keys (key_units k true)).items (keys (key_units k true)).tail (both (is_just k (keys (key_units k true))) (is_just k (keys (key_units k false))) h).0
back_is k h false = just_by_is k (keys (key_units k false)).items (keys (key_units k false)).tail (both (is_just k (keys (key_units k true))) (is_just k (keys (key_units k false))) h).1

-- ---- bytes

or_true : (a b : Bool) → (a || b) ≡ true → a ≡ false → b ≡ true
or_true true b h off = cc
or_true false b h off = h

abbrev plain_test : ℕ → Bool
plain_test b = (b == 0x1B) || is_read_back (byte_key b)

abbrev alt_test : ℕ → Bool
alt_test b = ((b == 0x1B) || (b == 0x5B) || (b == 0x4F)) || is_read_back (with_alt (byte_key b))

all_plain : all_below plain_test 0x80 ≡ true
unfolding next split_after is_front whole broken
all_plain = refl

all_alt : all_below alt_test 0x80 ≡ true
unfolding next split_after is_front whole broken
all_alt = refl

plain_back : (b : ℕ) → b < 0x80 → (b == 0x1B) ≡ false → IsReadBack (byte_key b)
plain_back b less other = back_is (byte_key b) (or_true (b == 0x1B) (is_read_back (byte_key b)) (holds_below plain_test 0x80 all_plain b less) other)

alt_back : (b : ℕ) → b < 0x80 → ((b == 0x1B) || (b == 0x5B) || (b == 0x4F)) ≡ false → IsReadBack (with_alt (byte_key b))
alt_back b less other = back_is (with_alt (byte_key b)) (or_true ((b == 0x1B) || (b == 0x5B) || (b == 0x4F)) (is_read_back (with_alt (byte_key b))) (holds_below alt_test 0x80 all_alt b less) other)

-- ---- sequences

abbrev range_test : (ℕ → ℕ) → ℕ → ℕ → Bool
range_test f base j = all_below (λ i. is_read_back (pressed (base + j) 0 (f (modifier_state (0x31 + i))))) 8

modifier_within : (m : ℕ) → is_modifier m ≡ true → (m - 0x31 < 8) × (0x31 + (m - 0x31) ≡ m)
modifier_within m h = let low : 0x31 ≤ m = grind (arith, nat_tests) in let high : m ≤ 0x38 = grind (arith, nat_tests) in (omega arith, omega arith)

range_back : (f : ℕ → ℕ) (base n : ℕ) → all_below (range_test f base) n ≡ true → (vk m : ℕ) → base ≤ vk → vk < base + n → is_modifier m ≡ true → IsReadBack (pressed vk 0 (f (modifier_state m)))
range_back f base n h vk m low high known =
    let j = vk - base in
    let at : base + (vk - base) ≡ vk = omega arith in
    let few : vk - base < n = omega arith in
    let within = modifier_within m known in
    let all = holds_below (range_test f base) n h (vk - base) few in
    let one = holds_below (λ i. is_read_back (pressed (base + (vk - base)) 0 (f (modifier_state (0x31 + i))))) 8 all (m - 0x31) within.0 in
    let P : ℕ → Type 0 = λ v. is_read_back (pressed v 0 (f (modifier_state (0x31 + (m - 0x31))))) ≡ true in
    let Q : ℕ → Type 0 = λ n. is_read_back (pressed vk 0 (f (modifier_state n))) ≡ true in
    back_is (pressed vk 0 (f (modifier_state m))) (subst Q within.1 (subst P at one))

abbrev far : ℕ → ℕ
far state = 0x100 + state

abbrev near : ℕ → ℕ
near state = state

some_back : (a k : Key) → ◌≡◌ {A = Option Key} (Some a) (Some k) → IsReadBack a → IsReadBack k
some_back a k e h = let same : a ≡ k = cc in subst IsReadBack same h

ends : all_below (range_test far 0x23) 6 ≡ true
unfolding next split_after is_front whole broken
ends = refl

pages : all_below (range_test far 0x21) 2 ≡ true
unfolding next split_after is_front whole broken
pages = refl

edits : all_below (range_test far 0x2D) 2 ≡ true
unfolding next split_after is_front whole broken
edits = refl

functions : all_below (range_test near 0x70) 12 ≡ true
unfolding next split_after is_front whole broken
functions = refl

six_by : (a b c d e f : Bool) (m : ℕ) (k : Key) → is_modifier m ≡ true
    → enhanced (modifier_state m) (cond a (Some 0x26) (cond b (Some 0x28) (cond c (Some 0x27) (cond d (Some 0x25) (cond e (Some 0x24) (cond f (Some 0x23) None)))))) ≡ Some k → IsReadBack k
six_by true b c d e f m k known h = some_back _ k h (range_back far 0x23 6 ends 0x26 m (lit≤ tt) (lit< tt) known)
six_by false true c d e f m k known h = some_back _ k h (range_back far 0x23 6 ends 0x28 m (lit≤ tt) (lit< tt) known)
six_by false false true d e f m k known h = some_back _ k h (range_back far 0x23 6 ends 0x27 m (lit≤ tt) (lit< tt) known)
six_by false false false true e f m k known h = some_back _ k h (range_back far 0x23 6 ends 0x25 m (lit≤ tt) (lit< tt) known)
six_by false false false false true f m k known h = some_back _ k h (range_back far 0x23 6 ends 0x24 m (lit≤ tt) (lit< tt) known)
six_by false false false false false true m k known h = some_back _ k h (range_back far 0x23 6 ends 0x23 m (lit≤ tt) (lit< tt) known)
six_by false false false false false false m k known h = absurd (cc)

page_by : (a b c d : Bool) (m : ℕ) (k : Key) → is_modifier m ≡ true
    → enhanced (modifier_state m) (cond a (Some 0x2D) (cond b (Some 0x2E) (cond c (Some 0x21) (cond d (Some 0x22) None)))) ≡ Some k → IsReadBack k
page_by true b c d m k known h = some_back _ k h (range_back far 0x2D 2 edits 0x2D m (lit≤ tt) (lit< tt) known)
page_by false true c d m k known h = some_back _ k h (range_back far 0x2D 2 edits 0x2E m (lit≤ tt) (lit< tt) known)
page_by false false true d m k known h = some_back _ k h (range_back far 0x21 2 pages 0x21 m (lit≤ tt) (lit< tt) known)
page_by false false false true m k known h = some_back _ k h (range_back far 0x21 2 pages 0x22 m (lit≤ tt) (lit< tt) known)
page_by false false false false m k known h = absurd (cc)

range_low : (lo hi n : ℕ) → is_in_range lo hi n ≡ true → (lo ≤ n) × (n ≤ hi)
range_low lo hi n h = let low : lo ≤ n = grind (arith, nat_tests) in let high : n ≤ hi = grind (arith, nat_tests) in (low, high)

first_by : (c : Bool) (b m : ℕ) (k : Key) → is_in_range 0x50 0x53 b ≡ c → is_modifier m ≡ true → ordinary (modifier_state m) (cond c (Some (b + 0x20)) None) ≡ Some k → IsReadBack k
first_by true b m k e known h = let within = range_low 0x50 0x53 b e in
    some_back _ k h (range_back near 0x70 12 functions (b + 0x20) m (omega (arith, within.0)) (omega (arith, within.1)) known)
first_by false b m k e known h = absurd (cc)

teen_by : (a c : Bool) (e m : ℕ) (k : Key) → is_in_range 0x37 0x39 e ≡ c → is_modifier m ≡ true → ordinary (modifier_state m) (cond a (Some 0x74) (cond c (Some (e + 0x3E)) None)) ≡ Some k → IsReadBack k
teen_by true c e m k p known h = some_back _ k h (range_back near 0x70 12 functions 0x74 m (lit≤ tt) (lit< tt) known)
teen_by false true e m k p known h = let within = range_low 0x37 0x39 e p in
    some_back _ k h (range_back near 0x70 12 functions (e + 0x3E) m (omega (arith, within.0)) (omega (arith, within.1)) known)
teen_by false false e m k p known h = absurd (cc)

twenty_by : (a c : Bool) (e m : ℕ) (k : Key) → is_in_range 0x30 0x31 e ≡ a → is_in_range 0x33 0x34 e ≡ c → is_modifier m ≡ true
    → ordinary (modifier_state m) (cond a (Some (e + 0x48)) (cond c (Some (e + 0x47)) None)) ≡ Some k → IsReadBack k
twenty_by true c e m k p q known h = let within = range_low 0x30 0x31 e p in
    some_back _ k h (range_back near 0x70 12 functions (e + 0x48) m (omega (arith, within.0)) (omega (arith, within.1)) known)
twenty_by false true e m k p q known h = let within = range_low 0x33 0x34 e q in
    some_back _ k h (range_back near 0x70 12 functions (e + 0x47) m (omega (arith, within.0)) (omega (arith, within.1)) known)
twenty_by false false e m k p q known h = absurd (cc)

function_by : (a c : Bool) (e m : ℕ) (k : Key) → is_modifier m ≡ true → ordinary (modifier_state m) (cond a (teen_vk e) (cond c (twenty_vk e) None)) ≡ Some k → IsReadBack k
function_by true c e m k known h = teen_by (e == 0x35) (is_in_range 0x37 0x39 e) e m k refl known h
function_by false true e m k known h = twenty_by (is_in_range 0x30 0x31 e) (is_in_range 0x33 0x34 e) e m k refl refl known h
function_by false false e m k known h = absurd (cc)

six_back : (b m : ℕ) (k : Key) → is_modifier m ≡ true → enhanced (modifier_state m) (six_vk b) ≡ Some k → IsReadBack k
six_back b m k known h = six_by (b == 0x41) (b == 0x42) (b == 0x43) (b == 0x44) (b == 0x48) (b == 0x46) m k known h

page_back : (d m : ℕ) (k : Key) → is_modifier m ≡ true → enhanced (modifier_state m) (page_vk d) ≡ Some k → IsReadBack k
page_back d m k known h = page_by (d == 0x32) (d == 0x33) (d == 0x35) (d == 0x36) m k known h

function_back : (d e m : ℕ) (k : Key) → is_modifier m ≡ true → ordinary (modifier_state m) (function_vk d e) ≡ Some k → IsReadBack k
function_back d e m k known h = function_by (d == 0x31) (d == 0x32) e m k known h

letter_by : (o p : Option Key) (k : Key) → (o ≡ Some k → IsReadBack k) → (p ≡ Some k → IsReadBack k) → or_else o p ≡ Some k → IsReadBack k
letter_by (Some x) p k f g h = f h
letter_by None p k f g h = g h

letter_back : (b m : ℕ) (k : Key) → is_modifier m ≡ true → letter_key (modifier_state m) b ≡ Some k → IsReadBack k
letter_back b m k known h = letter_by (enhanced (modifier_state m) (six_vk b)) (ordinary (modifier_state m) (first_vk b)) k
    (λ e. six_back b m k known e) (λ e. first_by (is_in_range 0x50 0x53 b) b m k refl known e) h

when_by : (c : Bool) (o : Option Key) (k : Key) → (c ≡ true → o ≡ Some k → IsReadBack k) → cond c o None ≡ Some k → IsReadBack k
when_by true o k f h = f refl h
when_by false o k f h = absurd (cc)

number_by : (c d : Bool) (o p : Option Key) (k : Key) → (o ≡ Some k → IsReadBack k) → (p ≡ Some k → IsReadBack k) → cond c o (cond d p None) ≡ Some k → IsReadBack k
number_by true d o p k f g h = f h
number_by false true o p k f g h = g h
number_by false false o p k f g h = absurd (cc)

sequence_back : (body : List ℕ) (last : ℕ) (k : Key) → control_sequence_key body last ≡ Some k → IsReadBack k
sequence_back [] last k h = six_back last 0x31 k refl h
sequence_back (d ∷ []) last k h = when_by (last == 0x7E) (enhanced 0 (page_vk d)) k (λ t e. page_back d 0x31 k refl e) h
sequence_back (d ∷ e ∷ []) last k h = when_by (last == 0x7E) (ordinary 0 (function_vk d e)) k (λ t is. function_back d e 0x31 k refl is) h
sequence_back (d ∷ s ∷ m ∷ []) last k h =
    when_by ((s == 0x3B) && is_modifier m) (cond (last == 0x7E) (enhanced (modifier_state m) (page_vk d)) (cond (d == 0x31) (letter_key (modifier_state m) last) None)) k
    (λ t. let known = (both (s == 0x3B) (is_modifier m) t).1 in
    number_by (last == 0x7E) (d == 0x31) (enhanced (modifier_state m) (page_vk d)) (letter_key (modifier_state m) last) k (page_back d m k known) (letter_back last m k known)) h
sequence_back (d ∷ e ∷ s ∷ m ∷ []) last k h =
    when_by (((s == 0x3B) && is_modifier m) && (last == 0x7E)) (ordinary (modifier_state m) (function_vk d e)) k
    (λ t. function_back d e m k (both (s == 0x3B) (is_modifier m) (both ((s == 0x3B) && is_modifier m) (last == 0x7E) t).0).1) h
sequence_back (d ∷ e ∷ s ∷ m ∷ x ∷ more) last k h = absurd (cc)

-- ---- and the four that are not

no_escape : IsReadAs (byte_key 0x1B) [] (0x1B ∷ [])
unfolding next split_after is_front whole broken
no_escape true = refl
no_escape false = refl

no_alt_escape : IsReadAs (with_alt (byte_key 0x1B)) (byte_key 0x1B ∷ []) (0x1B ∷ [])
unfolding next split_after is_front whole broken
no_alt_escape true = refl
no_alt_escape false = refl

no_alt_bracket : IsReadAs (with_alt (byte_key 0x5B)) [] (0x1B ∷ 0x5B ∷ [])
unfolding next split_after is_front whole broken
no_alt_bracket true = refl
no_alt_bracket false = refl

no_alt_single : IsReadAs (with_alt (byte_key 0x4F)) [] (0x1B ∷ 0x4F ∷ [])
unfolding next split_after is_front whole broken
no_alt_single true = refl
no_alt_single false = refl

pub read_back : ReadBack
read_back = record {
  plain = plain_back;
  alt = alt_back;
  control_sequence = sequence_back;
  single = λ last k h. letter_back last 0x31 k refl h;
  not_escape = no_escape;
  not_alt_escape = no_alt_escape;
  not_alt_bracket = no_alt_bracket;
  not_alt_single = no_alt_single;
}

-- Characters of several bytes.
use Rattle.std.proofs.Common.{◌≡◌, ℕ, ◌+◌, ◌-◌, ◌/◌, ◌%◌, ◌≤◌, Bool, true, false, cond, ◌==◌, nat_lt, nat_le, List, [], ◌∷◌, ◌++◌, length, map, get_or, refl, sym, ap, ◌∙◌, arith}
use Rattle.std.specs.Prelude.{flat_map, if◌then◌else◌}
use Rattle.std.specs.Int.{is_in_range}
use Rattle.std.specs.List.{list_all}
use Rattle.std.proofs.lemmas.Bool.{and_parts}
use Rattle.std.proofs.lemmas.Bool.Decides.{nat_tests}
use Rattle.con_units.specs.Split.{split, with_items, split_after}
use Rattle.con_units.specs.Stored.{is_control}
use Rattle.con_units.specs.ReadLaws.{read_so}
use Rattle.con_units.specs.Utf8.{utf8, may_follow, is_continuation}
use Rattle.con_units.specs.Words.Utf8.{code_of_two, code_of_three, code_of_four}
use Rattle.con_vtgram.specs.Text.{grammar, is_front, whole, is_acting}
use Rattle.con_vtgram.specs.declared.item.Item.TheVariants.{Print}
use Rattle.con_term.specs.Page.{Page}
use Rattle.con_term.specs.Run.{all_printed}
use Rattle.con_term.specs.Terminal.{Terminal}
use Rattle.con_term.specs.Play.{units_of, play}
use Rattle.con_term.specs.Steps.{typed}
use Rattle.con_term.specs.PlayLaws.{play-none}
use Rattle.con_term.specs.Front.{IsFront, IsPrintedAs}
use Rattle.con_term.proofs.AsciiLemmas.{prints_fold}

-- ---- whole characters

one_split : (a : ℕ) → 0x80 ≤ a → is_in_range 0xC2 0xF4 a ≡ false → split utf8 (a ∷ []) ≡ record { items = 0xFFFD ∷ []; tail = [] }
unfolding split_after
one_split a h k =
    let high : nat_lt a 0x80 ≡ false = grind (arith, nat_tests) in
    (read_so utf8).whole [] [] a (0xFFFD ∷ []) tt k (rw high refl)

two_split : (a b : ℕ) → is_in_range 0xC2 0xDF a ≡ true → is_continuation b ≡ true → split utf8 (a ∷ b ∷ []) ≡ record { items = code_of_two a b ∷ []; tail = [] }
unfolding split_after
two_split a b h k =
    let cut : is_in_range 0xC2 0xF4 a ≡ true = grind (arith, nat_tests) in
    let last : is_in_range 0xE0 0xF4 a ≡ false = grind (arith, nat_tests) in
    (read_so utf8).whole (a ∷ []) [] b (code_of_two a b ∷ []) (cut, tt) (rw last refl) (rw (h, k) refl)

three_split : (a b c : ℕ) → is_in_range 0xE0 0xEF a ≡ true → may_follow a b ≡ true → is_continuation c ≡ true → split utf8 (a ∷ b ∷ c ∷ []) ≡ record { items = code_of_three a b c ∷ []; tail = [] }
unfolding split_after
three_split a b c h f k =
    let cut : is_in_range 0xC2 0xF4 a ≡ true = grind (arith, nat_tests) in
    let more : is_in_range 0xE0 0xF4 a ≡ true = grind (arith, nat_tests) in
    let last : is_in_range 0xF0 0xF4 a ≡ false = grind (arith, nat_tests) in
    (read_so utf8).whole (a ∷ b ∷ []) [] c (code_of_three a b c ∷ []) (cut, (rw (more, f) refl, tt)) (rw last refl) (rw (h, f, k) refl)

four_split : (a b c d : ℕ) → is_in_range 0xF0 0xF4 a ≡ true → may_follow a b ≡ true → is_continuation c ≡ true → is_continuation d ≡ true → split utf8 (a ∷ b ∷ c ∷ d ∷ []) ≡ record { items = code_of_four a b c d ∷ []; tail = [] }
unfolding split_after
four_split a b c d h f k l =
    let cut : is_in_range 0xC2 0xF4 a ≡ true = grind (arith, nat_tests) in
    let more : is_in_range 0xE0 0xF4 a ≡ true = grind (arith, nat_tests) in
    (read_so utf8).whole (a ∷ b ∷ c ∷ []) [] d (code_of_four a b c d ∷ []) (cut, (rw (more, f) refl, (rw (h, f, k) refl, tt))) refl (rw (h, f, k, l) refl)

-- ---- at the front of bytes

low_two : (b : ℕ) (p q : Bool) → nat_le b (cond p 0x9F (cond q 0x8F 0xBF)) ≡ true → b ≤ 0xBF
low_two b true q h = grind (arith, nat_tests)
low_two b false true h = grind (arith, nat_tests)
low_two b false false h = grind (arith, nat_tests)

low_second : (a b : ℕ) → may_follow a b ≡ true → b ≤ 0xBF
low_second a b h = low_two b (a == 0xED) (a == 0xF4) (and_parts (nat_le (if a == 0xE0 then 0xA0 else (if a == 0xF0 then 0x90 else 0x80)) b) (nat_le b (if a == 0xED then 0x9F else (if a == 0xF4 then 0x8F else 0xBF))) h).1

low : (b : ℕ) → is_continuation b ≡ true → b ≤ 0xBF
low b h = grind (arith, nat_tests)

pub one_front : (bytes : List ℕ) → 1 ≤ length bytes → 0x80 ≤ get_or {A = ℕ} bytes 0 0 → is_in_range 0xC2 0xF4 (get_or {A = ℕ} bytes 0 0) ≡ false → IsFront bytes (record { count = 1; code = 0xFFFD })
one_front [] h high k = absurd (omega arith)
one_front (a ∷ rest) h high k = record { few = omega arith; whole = one_split a high k; small = omega arith }

pub two_front : (bytes : List ℕ) → 2 ≤ length bytes → is_in_range 0xC2 0xDF (get_or {A = ℕ} bytes 0 0) ≡ true → is_continuation (get_or {A = ℕ} bytes 1 0) ≡ true → IsFront bytes (record { count = 2; code = code_of_two (get_or {A = ℕ} bytes 0 0) (get_or {A = ℕ} bytes 1 0) })
two_front [] h i k = absurd (omega arith)
two_front (a ∷ []) h i k = absurd (omega arith)
two_front (a ∷ b ∷ rest) h i k = let most : a ≤ 0xDF = grind (arith, nat_tests) in record { few = omega arith; whole = two_split a b i k; small = omega (arith, most, low b k) }

pub three_front : (bytes : List ℕ) → 3 ≤ length bytes → is_in_range 0xE0 0xEF (get_or {A = ℕ} bytes 0 0) ≡ true → may_follow (get_or {A = ℕ} bytes 0 0) (get_or {A = ℕ} bytes 1 0) ≡ true → is_continuation (get_or {A = ℕ} bytes 2 0) ≡ true
    → IsFront bytes (record { count = 3; code = code_of_three (get_or {A = ℕ} bytes 0 0) (get_or {A = ℕ} bytes 1 0) (get_or {A = ℕ} bytes 2 0) })
three_front [] h i k l = absurd (omega arith)
three_front (a ∷ []) h i k l = absurd (omega arith)
three_front (a ∷ b ∷ []) h i k l = absurd (omega arith)
three_front (a ∷ b ∷ c ∷ rest) h i k l = let most : a ≤ 0xEF = grind (arith, nat_tests) in
    record { few = omega arith; whole = three_split a b c i k l; small = omega (arith, most, low_second a b k, low c l) }

pub four_front : (bytes : List ℕ) → 4 ≤ length bytes → is_in_range 0xF0 0xF4 (get_or {A = ℕ} bytes 0 0) ≡ true → may_follow (get_or {A = ℕ} bytes 0 0) (get_or {A = ℕ} bytes 1 0) ≡ true → is_continuation (get_or {A = ℕ} bytes 2 0) ≡ true → is_continuation (get_or {A = ℕ} bytes 3 0) ≡ true
    → IsFront bytes (record { count = 4; code = code_of_four (get_or {A = ℕ} bytes 0 0) (get_or {A = ℕ} bytes 1 0) (get_or {A = ℕ} bytes 2 0) (get_or {A = ℕ} bytes 3 0) })
four_front [] h i k l r = absurd (omega arith)
four_front (a ∷ []) h i k l r = absurd (omega arith)
four_front (a ∷ b ∷ []) h i k l r = absurd (omega arith)
four_front (a ∷ b ∷ c ∷ []) h i k l r = absurd (omega arith)
four_front (a ∷ b ∷ c ∷ d ∷ rest) h i k l r = let most : a ≤ 0xF4 = grind (arith, nat_tests) in
    record { few = omega arith; whole = four_split a b c d i k l r; small = omega (arith, most, low_second a b k, low c l, low d r) }

-- ---- units that are printed

abbrev is_text : ℕ → Bool
is_text u = nat_le 0xA0 u

no_escape : (u : ℕ) → is_text u ≡ true → (u == 0x1B) ≡ false
no_escape u h = grind (arith, nat_tests)

no_acting : (u : ℕ) → is_text u ≡ true → is_acting u ≡ false
no_acting u h = grind (arith, nat_tests)

no_control : (u : ℕ) → is_text u ≡ true → is_control u ≡ false
no_control u h = grind (arith, nat_tests)

text_items : (us : List ℕ) → list_all is_text us ≡ true → split grammar us ≡ record { items = map (λ u. Print u) us; tail = [] }
unfolding split_after is_front whole
text_items [] h = refl
text_items (u ∷ us) h = let k = and_parts (is_text u) (list_all is_text us) h in
    (read_so grammar).whole [] us u (Print u ∷ []) tt (rw (no_escape u k.0) refl) (rw (no_escape u k.0, no_acting u k.0, no_control u k.0) refl)
    ∙ ap (with_items (Print u ∷ [])) (text_items us k.1)

are_text_by : (c : ℕ) (b : Bool) → nat_lt c 0x10000 ≡ b → 0xA0 ≤ c → list_all is_text (units_of c) ≡ true
unfolding units_of
are_text_by c true e h = let one : nat_le 0xA0 c ≡ true = grind (arith, nat_tests) in rw (e, one) refl
are_text_by c false e h =
    let first : nat_le 0xA0 (0xD800 + (c - 0x10000) / 1024) ≡ true = grind (arith, nat_tests) in
    let second : nat_le 0xA0 (0xDC00 + (c - 0x10000) % 1024) ≡ true = grind (arith, nat_tests) in
    rw (e, first, second) refl

are_text : (c : ℕ) → 0xA0 ≤ c → list_all is_text (units_of c) ≡ true
are_text c h = are_text_by c (nat_lt c 0x10000) refl h

none_more : (us : List ℕ) → us ++ [] ≡ us
none_more [] = refl
none_more (u ∷ us) = ap (λ vs. u ∷ vs) (none_more us)

-- a whole character that is no control
pub character_is : (before after : Page) (bytes : List ℕ) (c : ℕ) → split utf8 bytes ≡ record { items = c ∷ []; tail = [] } → 0xA0 ≤ c → after ≡ all_printed before (units_of c) → IsPrintedAs before after bytes
unfolding play typed
character_is before after bytes c is high e t none rest here =
    let units : flat_map units_of (c ∷ []) ≡ units_of c = none_more (units_of c) in
    whole_is t after none rest
    ∙ sym (rw (none, rest, is, units, text_items (units_of c) (are_text c high)) (ap (λ s. record t { page = s; bytes = []; units = [] }) (prints_fold t.page (units_of c) ∙ ap (λ s. all_printed s (units_of c)) here ∙ sym e)))
  where
    whole_is : (t : Terminal) (page : Page) → t.bytes ≡ [] → t.units ≡ [] → record t { page = page } ≡ record t { page = page; bytes = []; units = [] }
    whole_is t page none rest = rw (none, rest) refl

-- nothing is printed
pub none_is : (before : Page) → IsPrintedAs before before []
none_is before t none rest here = ap (λ s. record t { page = s }) (sym here) ∙ play-none t

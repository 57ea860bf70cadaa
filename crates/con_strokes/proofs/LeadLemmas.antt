-- What appended bytes lead to.
use Rattle.std.proofs.Common.{◌≡◌, ℕ, ◌+◌, ◌-◌, ◌*◌, ◌<◌, ◌≤◌, Bool, true, false, not, ◌==◌, ◌||◌, List, [], ◌∷◌, ◌++◌, fold, max, min, get_or, refl, sym, ap, ◌∙◌, append_assoc, arith}
use Rattle.std.specs.Prelude.{nat_lt}
use Rattle.std.proofs.lemmas.List.Sums.{fold-append}
use Rattle.std.proofs.lemmas.Bool.Decides.{nat_tests}
use Rattle.con_units.specs.Attr.{Attribute, plain}
use Rattle.con_units.specs.Words.Attr.{IsAttribute}
use Rattle.con_units.specs.Stored.{stored_unit}
use Rattle.con_units.specs.declared.shade.Shade.{Shade}
use Rattle.con_units.specs.declared.shade.Shade.TheVariants.{Plain, Index}
use Rattle.con_units.specs.Decimal.{decimal}
use Rattle.con_vtgram.specs.Text.{sixteen}
use Rattle.con_vtgram.specs.declared.item.Item.{Item}
use Rattle.con_vtgram.specs.declared.item.Item.TheVariants.{Print, Control, Csi}
use Rattle.con_term.specs.Page.{Page, erased, lowered, place, printed}
use Rattle.con_vtgram.specs.Pen.{starting_pen, pen_after}
use Rattle.con_vtgram.specs.Sgr.{pen_by}
use Rattle.con_term.specs.Effect.{effect, part_erased, plain_effect, private_effect, row_end, unpended, gone_to, moved_to}
use Rattle.con_term.specs.Steps.{lifted, moved_down, moved_left, moved_right, moved_up}
use Rattle.con_term.specs.Cost.{cost, costs, plain_cost}
use Rattle.con_strokes.specs.Bytes.{part, parts, separated, csi_bytes, utf8_of, ground_bytes, more_numbers}
use Rattle.con_strokes.specs.Spells.{AllSmall, Spells, csi, question, ground_items}
use Rattle.con_strokes.specs.Leads.{Leads}
use Rattle.con_strokes.specs.Ink.{pen_for}
use Rattle.con_strokes.specs.Pens.{colour_numbers, numbers_of, IsEnough}
use Rattle.con_strokes.specs.Places.{place_numbers, count_numbers}
use Rattle.con_strokes.specs.declared.pen.Changes.{Changes}
use Rattle.con_strokes.proofs.SpellLemmas.{spells-append, spells-none, csi_spells, unit_spells, plain_spells, return_spells, next_row_spells, second_row_spells, backspace_spells, erase_row_spells, erase_rest_spells, hide_spells, show_spells, ground_spells}
use Rattle.con_strokes.proofs.PenLemmas.{pen_chosen, small_numbers, all_small-append, one_small}

pub append_none : {A : Type 0} (xs : List A) → xs ++ [] ≡ xs
append_none [] = refl
append_none (x ∷ xs) = ap (λ zs. x ∷ zs) (append_none xs)

costs-append : (s : Page) (is js : List Item) → costs s (is ++ js) ≡ costs s is + costs (fold effect s is) js
costs-append s [] js = omega arith
costs-append s (i ∷ is) js = omega (arith, costs-append (effect s i) is js)

pub leads-none : (bytes : List ℕ) (s : Page) → Leads bytes bytes s s 0
leads-none bytes s = record { bytes = []; items = []; appended = sym (append_none bytes); spelled = spells-none; page = refl; count = refl }

pub leads-append : (xs ys zs : List ℕ) (s t u : Page) (m n : ℕ) → Leads xs ys s t m → Leads ys zs t u n → Leads xs zs s u (m + n)
leads-append xs ys zs s t u m n h k = record {
  bytes = h.bytes ++ k.bytes;
  items = h.items ++ k.items;
  appended = k.appended ∙ ap (λ bs. bs ++ k.bytes) h.appended ∙ append_assoc xs h.bytes k.bytes;
  spelled = spells-append h.bytes k.bytes h.items k.items h.spelled k.spelled;
  page = fold-append effect s h.items k.items ∙ ap (λ v. fold effect v k.items) h.page ∙ k.page;
  count = costs-append s h.items k.items ∙ rw (h.count, h.page, k.count) refl;
}

pub leads_then : (xs ys zs : List ℕ) (s t u : Page) (m n k : ℕ) → Leads xs ys s t m → Leads ys zs t u n → m + n ≡ k → Leads xs zs s u k
leads_then xs ys zs s t u m n k a b e = rw (← e) (leads-append xs ys zs s t u m n a b)

pub leads_one : (old new bytes : List ℕ) (item : Item) (s t : Page) (n : ℕ) → new ≡ old ++ bytes → Spells bytes (item ∷ []) → effect s item ≡ t → cost s item ≡ n → Leads old new s t n
leads_one old new bytes item s t n e spelled page count = record { bytes = bytes; items = item ∷ []; appended = e; spelled = spelled; page = page; count = omega (arith, count) }

-- a column 1 and a row 1 are what absent ones are
place_is : (s : Page) (a b : Bool) (row column : ℕ) → (a ≡ false → column ≡ 1) → (b ≡ false → row ≡ 1)
    → gone_to s (get_or (sixteen (part (a || b) row ++ part a column)) 0 0) (get_or (sixteen (part (a || b) row ++ part a column)) 1 0) ≡ gone_to s row column
unfolding sixteen
place_is s true b row column h k = refl
place_is s false true row column h k = rw (h refl) refl
place_is s false false row column h k = rw (h refl, k refl) refl

not_false : (a b : ℕ) → not (a == b) ≡ false → a ≡ b
not_false a b h = grind (arith, nat_tests)

small_place : (row column : ℕ) → row < 1000 → column < 1000 → AllSmall (place_numbers row column)
small_place row column h k = all_small-append (part (not (column == 1) || not (row == 1)) row) (part (not (column == 1)) column) (one_small (not (column == 1) || not (row == 1)) row h) (one_small (not (column == 1)) column k)

pub goes : (old new : List ℕ) (row column : ℕ) (s : Page) → row < 1000 → column < 1000 → new ≡ old ++ csi_bytes (place_numbers row column) 0x48 → Leads old new s (gone_to s row column) 0
unfolding effect plain_effect cost plain_cost
goes old new row column s r c e = leads_one old new (csi_bytes (place_numbers row column) 0x48) (Csi (csi (place_numbers row column) 0x48)) s (gone_to s row column) 0 e
    (csi_spells (place_numbers row column) 0x48 (small_place row column r c) (omega arith, omega arith)) (place_is s (not (column == 1)) (not (row == 1)) row column (not_false column 1) (not_false row 1)) refl

count_is : (b : Bool) (n : ℕ) → (b ≡ false → n ≡ 1) → 0 < n → max (get_or (sixteen (part b n)) 0 0) 1 ≡ n
unfolding sixteen
count_is true n h some = let e : max n 1 ≡ n = omega arith in e
count_is false n h some = sym (h refl)

pub goes_up : (old new : List ℕ) (n : ℕ) (s : Page) → n < 1000 → 0 < n → new ≡ old ++ csi_bytes (count_numbers n) 0x53 → Leads old new s (lifted s n) 0
unfolding effect plain_effect cost plain_cost
goes_up old new n s small some e = leads_one old new (csi_bytes (count_numbers n) 0x53) (Csi (csi (count_numbers n) 0x53)) s (lifted s n) 0 e (csi_spells (count_numbers n) 0x53 (one_small (not (n == 1)) n small) (omega arith, omega arith))
    (ap (lifted s) (count_is (not (n == 1)) n (not_false n 1) some)) refl

counts : (n : ℕ) → 0 < n → max (get_or (sixteen (count_numbers n)) 0 0) 1 ≡ max n 1
counts n some = let e : n ≡ max n 1 = omega arith in count_is (not (n == 1)) n (not_false n 1) some ∙ e

pub goes_right : (old new : List ℕ) (n : ℕ) (s : Page) → n < 1000 → 0 < n → new ≡ old ++ csi_bytes (count_numbers n) 0x43 → Leads old new s (moved_right s n) 0
unfolding effect plain_effect cost plain_cost
goes_right old new n s small some e = leads_one old new (csi_bytes (count_numbers n) 0x43) (Csi (csi (count_numbers n) 0x43)) s (moved_right s n) 0 e (csi_spells (count_numbers n) 0x43 (one_small (not (n == 1)) n small) (omega arith, omega arith))
    (ap (λ z. moved_to s (min (s.x + z) (s.w - 1)) s.y) (counts n some)) refl

pub goes_left : (old new : List ℕ) (n : ℕ) (s : Page) → n < 1000 → 0 < n → new ≡ old ++ csi_bytes (count_numbers n) 0x44 → Leads old new s (moved_left s n) 0
unfolding effect plain_effect cost plain_cost
goes_left old new n s small some e = leads_one old new (csi_bytes (count_numbers n) 0x44) (Csi (csi (count_numbers n) 0x44)) s (moved_left s n) 0 e (csi_spells (count_numbers n) 0x44 (one_small (not (n == 1)) n small) (omega arith, omega arith))
    (ap (λ z. moved_to s (s.x - z) s.y) (counts n some)) refl

pub goes_down : (old new : List ℕ) (n : ℕ) (s : Page) → n < 1000 → 0 < n → new ≡ old ++ csi_bytes (count_numbers n) 0x42 → Leads old new s (moved_down s n) 0
unfolding effect plain_effect cost plain_cost
goes_down old new n s small some e = leads_one old new (csi_bytes (count_numbers n) 0x42) (Csi (csi (count_numbers n) 0x42)) s (moved_down s n) 0 e (csi_spells (count_numbers n) 0x42 (one_small (not (n == 1)) n small) (omega arith, omega arith))
    (ap (λ z. moved_to s s.x (min (s.y + z) (s.h - 1))) (counts n some)) refl

pub goes_above : (old new : List ℕ) (n : ℕ) (s : Page) → n < 1000 → 0 < n → new ≡ old ++ csi_bytes (count_numbers n) 0x41 → Leads old new s (moved_up s n) 0
unfolding effect plain_effect cost plain_cost
goes_above old new n s small some e = leads_one old new (csi_bytes (count_numbers n) 0x41) (Csi (csi (count_numbers n) 0x41)) s (moved_up s n) 0 e (csi_spells (count_numbers n) 0x41 (one_small (not (n == 1)) n small) (omega arith, omega arith))
    (ap (λ z. moved_to s s.x (s.y - z)) (counts n some)) refl

pub chooses : (old new : List ℕ) (c : Changes) (before a : Attribute) (s : Page) → s.pen ≡ pen_for before → IsAttribute a → IsEnough c before a → new ≡ old ++ csi_bytes (numbers_of c a) 0x6D → Leads old new s (record s { pen = pen_for a }) 0
unfolding cost plain_cost
chooses old new c before a s p is h e = leads_one old new (csi_bytes (numbers_of c a) 0x6D) (Csi (csi (numbers_of c a) 0x6D)) s (record s { pen = pen_for a }) 0 e (csi_spells (numbers_of c a) 0x6D (small_numbers c a is) (omega arith, omega arith)) (pen_chosen s c before a p is h) refl

pub chooses_plain : (old new : List ℕ) (s : Page) → new ≡ old ++ (0x1B ∷ 0x5B ∷ 0x6D ∷ []) → Leads old new s (record s { pen = pen_for (plain 7) }) 0
unfolding effect plain_effect cost plain_cost
chooses_plain old new s e = leads_one old new _ (Csi (csi [] 0x6D)) s (record s { pen = pen_for (plain 7) }) 0 e plain_spells refl refl

pub chooses_none : (old : List ℕ) (before a : Attribute) (s : Page) → s.pen ≡ pen_for before → before ≡ a → Leads old old s (record s { pen = pen_for a }) 0
chooses_none old before a s p e = let same : s.pen ≡ pen_for a = p ∙ ap pen_for e in rw (← same) (leads-none old s)

pub erases_row : (old new : List ℕ) (s : Page) → new ≡ old ++ (0x1B ∷ 0x5B ∷ 0x4B ∷ []) → Leads old new s (unpended (erased s (place s) (row_end s))) (s.w - s.x)
unfolding effect plain_effect part_erased cost plain_cost sixteen
erases_row old new s e = leads_one old new _ (Csi (csi [] 0x4B)) s _ (s.w - s.x) e erase_row_spells refl (let few : s.y * s.w + s.w - (s.y * s.w + s.x) ≡ s.w - s.x = omega arith in few)

pub erases_some : (old new : List ℕ) (n : ℕ) (s : Page) → n < 1000 → 0 < n → s.x + n ≤ s.w → new ≡ old ++ csi_bytes (count_numbers n) 0x58 → Leads old new s (unpended (erased s (place s) (place s + n))) n
unfolding effect plain_effect cost plain_cost
erases_some old new n s small some fits e =
    let one : max n 1 ≡ n = omega arith in
    let m : max (get_or (sixteen (count_numbers n)) 0 0) 1 ≡ n = counts n some ∙ one in
    let upto : min (s.y * s.w + s.x + n) (s.y * s.w + s.w) ≡ s.y * s.w + s.x + n = omega (arith, fits) in
    let few : min n (s.w - s.x) ≡ n = omega (arith, fits) in
    leads_one old new (csi_bytes (count_numbers n) 0x58) (Csi (csi (count_numbers n) 0x58)) s _ n e (csi_spells (count_numbers n) 0x58 (one_small (not (n == 1)) n small) (omega arith, omega arith))
    (ap (λ z. unpended (erased s (place s) (min (place s + z) (row_end s)))) m ∙ ap (λ z. unpended (erased s (place s) z)) upto) (ap (λ z. min z (s.w - s.x)) m ∙ few)

pub erases_rest : (old new : List ℕ) (s : Page) → new ≡ old ++ (0x1B ∷ 0x5B ∷ 0x4A ∷ []) → Leads old new s (unpended (erased s (place s) (s.h * s.w))) (s.h * s.w - place s)
unfolding effect plain_effect part_erased cost plain_cost sixteen
erases_rest old new s e = leads_one old new _ (Csi (csi [] 0x4A)) s _ (s.h * s.w - place s) e erase_rest_spells refl refl

pub returns_in_row : (old new : List ℕ) (s : Page) → new ≡ old ++ (0x0D ∷ []) → Leads old new s (record s { x = 0; pending = false }) 0
unfolding effect cost
returns_in_row old new s e = leads_one old new _ (Control 13) s _ 0 e return_spells refl refl

pub goes_to_next_row : (old new : List ℕ) (s : Page) → new ≡ old ++ (0x0D ∷ 0x0A ∷ []) → s.y + 1 < s.h → Leads old new s (record s { x = 0; y = s.y + 1; pending = false }) 0
unfolding effect cost lowered
goes_to_next_row old new s e h =
    let below : nat_lt (s.y + 1) s.h ≡ true = grind (arith, nat_tests) in
    record { bytes = _; items = Control 13 ∷ Control 10 ∷ []; appended = e; spelled = next_row_spells; page = rw below refl; count = refl }

-- the row behind that
pub goes_to_second_row : (old new : List ℕ) (s : Page) → new ≡ old ++ (0x0D ∷ 0x0A ∷ 0x0A ∷ []) → s.y + 2 < s.h → Leads old new s (record s { x = 0; y = s.y + 2; pending = false }) 0
unfolding effect cost lowered
goes_to_second_row old new s e h =
    let first : nat_lt (s.y + 1) s.h ≡ true = grind (arith, nat_tests) in
    let second : nat_lt (s.y + 1 + 1) s.h ≡ true = grind (arith, nat_tests) in
    let two : s.y + 1 + 1 ≡ s.y + 2 = omega arith in
    record { bytes = _; items = Control 13 ∷ Control 10 ∷ Control 10 ∷ []; appended = e; spelled = second_row_spells; page = rw (first, second, two) (refl {a = record s { x = 0; y = s.y + 2; pending = false }}); count = refl }

-- the next row behind the last one
pub makes_new_row : (old new : List ℕ) (s : Page) → new ≡ old ++ (0x0D ∷ 0x0A ∷ []) → s.y + 1 ≡ s.h → s.pending ≡ false → Leads old new s (record (lifted s 1) { x = 0 }) 0
unfolding effect cost lowered
makes_new_row old new s e last clear =
    let none : nat_lt (s.y + 1) s.h ≡ false = grind (arith, nat_tests) in
    let one : min 1 s.h ≡ 1 = omega (arith, last) in
    let width : 1 * s.w ≡ s.w = omega arith in
    record { bytes = _; items = Control 13 ∷ Control 10 ∷ []; appended = e; spelled = next_row_spells; page = rw (none, one, width, clear) refl; count = refl }

pub goes_back : (old new : List ℕ) (s : Page) → new ≡ old ++ (0x08 ∷ []) → Leads old new s (record s { x = s.x - 1; pending = false }) 0
unfolding effect cost
goes_back old new s e = leads_one old new _ (Control 8) s _ 0 e backspace_spells refl refl

pub prints : (old new : List ℕ) (u : ℕ) (s : Page) → u < 0x10000 → stored_unit u ≡ u → new ≡ old ++ utf8_of u → Leads old new s (printed u s) 1
unfolding effect cost
prints old new u s fits h e = leads_one old new (utf8_of u) (Print u) s (printed u s) 1 e (unit_spells u fits h) refl refl

pub shows : (old new : List ℕ) (s : Page) → new ≡ old ++ (0x1B ∷ 0x5B ∷ 0x3F ∷ 0x32 ∷ 0x35 ∷ 0x68 ∷ []) → Leads old new s (record s { visible = true }) 0
unfolding effect private_effect cost sixteen
shows old new s e = leads_one old new _ (Csi (question 25 0x68)) s (record s { visible = true }) 0 e show_spells refl refl

pub hides : (old new : List ℕ) (s : Page) → new ≡ old ++ (0x1B ∷ 0x5B ∷ 0x3F ∷ 0x32 ∷ 0x35 ∷ 0x6C ∷ []) → Leads old new s (record s { visible = false }) 0
unfolding effect private_effect cost sixteen
hides old new s e = leads_one old new _ (Csi (question 25 0x6C)) s (record s { visible = false }) 0 e hide_spells refl refl

pub grounds : (old new : List ℕ) (s : Page) → new ≡ old ++ ground_bytes → Leads old new s (record s { pen = starting_pen }) 0
unfolding effect private_effect plain_effect cost plain_cost sixteen pen_by pen_after
grounds old new s e = record { bytes = ground_bytes; items = ground_items; appended = e; spelled = ground_spells; page = refl; count = refl }

pub more_numbers-append : (ms ns : List ℕ) → more_numbers (ms ++ ns) ≡ more_numbers ms ++ more_numbers ns
more_numbers-append [] ns = refl
more_numbers-append (m ∷ ms) ns = rw (more_numbers-append ms ns) (ap (λ xs. 0x3B ∷ xs) (sym (append_assoc (decimal m) (more_numbers ms) (more_numbers ns))))

more_is : (ns : List ℕ) → more_numbers ns ≡ separated true ns
more_is [] = refl
more_is (n ∷ ns) = refl

-- one number more
pub separated-part : (some wanted : Bool) (n : ℕ) (ns : List ℕ) → separated some (part wanted n ++ ns) ≡ separated some (part wanted n) ++ separated (some || wanted) ns
separated-part true true n ns = rw (more_is ns, append_none (decimal n)) refl
separated-part false true n ns = rw (more_is ns, append_none (decimal n)) refl
separated-part true false n ns = refl
separated-part false false n ns = refl

-- whether there are some
abbrev pub any_of : List ℕ → Bool
any_of [] = false
any_of (n ∷ ns) = true

or_none : (b : Bool) → (b || false) ≡ b
or_none true = refl
or_none false = refl

separated-append : (some : Bool) (ms ns : List ℕ) → separated some (ms ++ ns) ≡ separated some ms ++ separated (some || any_of ms) ns
separated-append some [] ns = ap (λ b. separated b ns) (sym (or_none some))
separated-append true (m ∷ ms) ns = more_numbers-append (m ∷ ms) ns ∙ ap (λ z. more_numbers (m ∷ ms) ++ z) (more_is ns)
separated-append false (m ∷ ms) ns = ap (λ z. decimal m ++ z) (more_numbers-append ms ns ∙ ap (λ z. more_numbers ms ++ z) (more_is ns)) ∙ sym (append_assoc (decimal m) (more_numbers ms) (separated true ns))

any_of-append : (ms ns : List ℕ) → any_of (ms ++ ns) ≡ (any_of ms || any_of ns)
any_of-append [] ns = refl
any_of-append (m ∷ ms) ns = refl

-- numbers behind those that stand there
longer : (x0 x y : List ℕ) (some : Bool) (ms ns : List ℕ) → x ≡ x0 ++ separated some ms → y ≡ x ++ separated (some || any_of ms) ns → y ≡ x0 ++ separated some (ms ++ ns)
longer x0 x y some ms ns ex ey = ey ∙ ap (λ z. z ++ separated (some || any_of ms) ns) ex ∙ append_assoc x0 (separated some ms) (separated (some || any_of ms) ns) ∙ ap (λ z. x0 ++ z) (sym (separated-append some ms ns))

-- the same with one more part, and whether some stand there then
pub one_part_more : (x0 x y : List ℕ) (s t : Bool) (ms ns : List ℕ) → x ≡ x0 ++ separated false ms → s ≡ any_of ms → y ≡ x ++ separated s ns → t ≡ (s || any_of ns) → (y ≡ x0 ++ separated false (ms ++ ns)) × (t ≡ any_of (ms ++ ns))
one_part_more x0 x y s t ms ns ex es ey et = (
  longer x0 x y false ms ns ex (rw es at ey),
  et ∙ ap (λ b. b || any_of ns) es ∙ sym (any_of-append ms ns),
)

-- whether there are some where they are wanted
wanted_some : (some wanted t : Bool) (ns : List ℕ) → any_of ns ≡ true → t ≡ (some || wanted) → t ≡ (some || any_of (parts wanted ns))
wanted_some some true t ns h e = e ∙ ap (λ b. some || b) (sym h)
wanted_some some false t ns h e = e

any_colour : (layer : ℕ) (s : Shade) (n : ℕ) → any_of (colour_numbers layer s n) ≡ true
any_colour layer Plain n = refl
any_colour layer (Index i) n = refl

-- six parts, one after another
pub six_separated : (a b c d e f s t u v w : Bool) (k l m n g h : ℕ) (fore back : Shade) (x0 x1 x2 x3 x4 x5 x6 : List ℕ) → s ≡ (false || a) → t ≡ (s || b) → u ≡ (t || c) → v ≡ (u || d) → w ≡ (v || e)
    → x1 ≡ x0 ++ separated false (part a k) → x2 ≡ x1 ++ separated s (part b l) → x3 ≡ x2 ++ separated t (part c m) → x4 ≡ x3 ++ separated u (part d n) → x5 ≡ x4 ++ separated v (parts e (colour_numbers 38 fore g)) → x6 ≡ x5 ++ separated w (parts f (colour_numbers 48 back h))
    → x6 ≡ x0 ++ separated false (part a k ++ part b l ++ part c m ++ part d n ++ parts e (colour_numbers 38 fore g) ++ parts f (colour_numbers 48 back h))
six_separated a b c d e f s t u v w k l m n g h fore back x0 x1 x2 x3 x4 x5 x6 es et eu ev ew e1 e2 e3 e4 e5 e6 =
    let p1 : s ≡ any_of (part a k) = wanted_some false a s (k ∷ []) refl es in
    let p2 = one_part_more x0 x1 x2 s t (part a k) (part b l) e1 p1 e2 (wanted_some s b t (l ∷ []) refl et) in
    let p3 = one_part_more x0 x2 x3 t u (part a k ++ part b l) (part c m) p2.0 p2.1 e3 (wanted_some t c u (m ∷ []) refl eu) in
    let p4 = one_part_more x0 x3 x4 u v (part a k ++ part b l ++ part c m) (part d n) p3.0 p3.1 e4 (wanted_some u d v (n ∷ []) refl ev) in
    let p5 = one_part_more x0 x4 x5 v w (part a k ++ part b l ++ part c m ++ part d n) (parts e (colour_numbers 38 fore g)) p4.0 p4.1 e5 (wanted_some v e w (colour_numbers 38 fore g) (any_colour 38 fore g) ew) in
    (one_part_more x0 x5 x6 w (w || any_of (parts f (colour_numbers 48 back h))) (part a k ++ part b l ++ part c m ++ part d n ++ parts e (colour_numbers 38 fore g)) (parts f (colour_numbers 48 back h)) p5.0 p5.1 e6 refl).0

three_turns : (s : Bool) → ((s || true) || true) ≡ (s || true)
three_turns true = refl
three_turns false = refl

no_turns : (s : Bool) → ((s || false) || false) ≡ (s || false)
no_turns true = refl
no_turns false = refl

-- three numbers where they are wanted
pub three_wanted : (x0 x1 x2 x3 : List ℕ) (some wanted first second : Bool) (k l m : ℕ) → x1 ≡ x0 ++ separated some (part wanted k) → first ≡ (some || wanted) → x2 ≡ x1 ++ separated first (part wanted l) → second ≡ (first || wanted) → x3 ≡ x2 ++ separated second (part wanted m)
    → x3 ≡ x0 ++ separated some (parts wanted (k ∷ l ∷ m ∷ []))
three_wanted x0 x1 x2 x3 some true first second k l m e1 f e2 g e3 =
    let second_is : second ≡ (some || true) = g ∙ ap (λ b. b || true) f ∙ three_turns some in
    let q : x2 ≡ x0 ++ separated some (k ∷ l ∷ []) = longer x0 x1 x2 some (k ∷ []) (l ∷ []) e1 (e2 ∙ ap (λ b. x1 ++ separated b (l ∷ [])) f) in
    longer x0 x2 x3 some (k ∷ l ∷ []) (m ∷ []) q (e3 ∙ ap (λ b. x2 ++ separated b (m ∷ [])) second_is)
three_wanted x0 x1 x2 x3 some false first second k l m e1 f e2 g e3 = e3 ∙ append_none x2 ∙ e2 ∙ append_none x1 ∙ e1

-- and some stand there then
pub wanted_thrice : (some wanted first second third : Bool) → first ≡ (some || wanted) → second ≡ (first || wanted) → third ≡ (second || wanted) → third ≡ (some || wanted)
wanted_thrice some true first second third e f g = g ∙ ap (λ b. b || true) (f ∙ ap (λ b. b || true) e ∙ three_turns some) ∙ three_turns some
wanted_thrice some false first second third e f g = g ∙ ap (λ b. b || false) (f ∙ ap (λ b. b || false) e ∙ no_turns some) ∙ no_turns some

-- ESC [, a middle part and the last byte
pub bracketed : (out a b c d middle : List ℕ) (last : ℕ) → a ≡ out ++ 0x1B ∷ [] → b ≡ a ++ 0x5B ∷ [] → c ≡ b ++ middle → d ≡ c ++ last ∷ [] → d ≡ out ++ (0x1B ∷ 0x5B ∷ (middle ++ last ∷ []))
bracketed out a b c d middle last ea eb ec ed = ed ∙ rw (ec, eb, ea) (simp append_assoc)

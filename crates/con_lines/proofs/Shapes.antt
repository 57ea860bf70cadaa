-- Arrays of another length than the one that is wanted.
use Rattle.std.proofs.Common.{◌≡◌, ℕ, ◌<◌, ◌≤◌, List, [], ◌∷◌, length, get_or, refl, ap, ◌∙◌, arith, None, true, false, nat_lt}
use Rattle.std.specs.Prelude.{◌==◌, option_map, option_and_then}
use Rattle.std.proofs.lemmas.Bool.Decides.{nat_tests}
use Rattle.con_events.specs.Reading.{nothing_left}
use Rattle.serde_json.specs.Data.{item, no_items}
use Rattle.serde_json.specs.Find.{as_str}
use Rattle.serde_json.specs.View.{view, items_view}
use Rattle.serde_json.specs.declared.value.Value.{Value}
use Rattle.con_lines.specs.Ending.{at_frame}
use Rattle.con_lines.specs.Told.{alone_in, worded_in, kind_in, length_in, only, is_bare, number_and_flag_in, cells_in, painted_in, number_pair_in, unit_pair_in, read_with_in, said_items, ending_items, as_told, unhex_units, unhex_bytes, cells_from}

pub less : (a b : ℕ) → nat_lt a b ≡ true → a < b
less a b h = grind (arith, nat_tests)

pub not_less : (a b : ℕ) → nat_lt a b ≡ false → b ≤ a
not_less a b h = grind (arith, nat_tests)

pub none_there : (vs : List Value) → (length vs == 0) ≡ is_bare (items_view vs)
none_there [] = refl
none_there (v ∷ vs) = grind (arith, nat_tests)

pub no_told : (vs : List Value) → (length vs == 0) ≡ nothing_left (as_told (items_view vs))
no_told [] = refl
no_told (v ∷ vs) = grind (arith, nat_tests)

pub one_short : (vs : List Value) → length vs < 1 → None ≡ only (items_view vs)
one_short [] h = refl
one_short (a ∷ vs) h = absurd (omega arith)

pub one_long : (vs : List Value) → 2 ≤ length vs → None ≡ only (items_view vs)
one_long [] h = absurd (omega arith)
one_long (a ∷ []) h = absurd (omega arith)
one_long (a ∷ b ∷ vs) h = refl

pub number_and_flag_short : (vs : List Value) → length vs < 2 → None ≡ number_and_flag_in (items_view vs)
number_and_flag_short [] h = refl
number_and_flag_short (a ∷ []) h = refl
number_and_flag_short (a ∷ b ∷ vs) h = absurd (omega arith)

pub number_and_flag_long : (vs : List Value) → 3 ≤ length vs → None ≡ number_and_flag_in (items_view vs)
number_and_flag_long [] h = absurd (omega arith)
number_and_flag_long (a ∷ []) h = absurd (omega arith)
number_and_flag_long (a ∷ b ∷ []) h = absurd (omega arith)
number_and_flag_long (a ∷ b ∷ c ∷ vs) h = refl

pub cells_short : (vs : List Value) → length vs < 2 → None ≡ cells_in (items_view vs)
cells_short [] h = refl
cells_short (a ∷ []) h = refl
cells_short (a ∷ b ∷ vs) h = absurd (omega arith)

pub cells_long : (vs : List Value) → 3 ≤ length vs → None ≡ cells_in (items_view vs)
cells_long [] h = absurd (omega arith)
cells_long (a ∷ []) h = absurd (omega arith)
cells_long (a ∷ b ∷ []) h = absurd (omega arith)
cells_long (a ∷ b ∷ c ∷ vs) h = refl

pub painted_short : (vs : List Value) → length vs < 2 → None ≡ painted_in (items_view vs)
painted_short [] h = refl
painted_short (a ∷ []) h = refl
painted_short (a ∷ b ∷ vs) h = absurd (omega arith)

pub painted_long : (vs : List Value) → 3 ≤ length vs → None ≡ painted_in (items_view vs)
painted_long [] h = absurd (omega arith)
painted_long (a ∷ []) h = absurd (omega arith)
painted_long (a ∷ b ∷ []) h = absurd (omega arith)
painted_long (a ∷ b ∷ c ∷ vs) h = refl

pub numbers_short : (vs : List Value) → length vs < 2 → None ≡ number_pair_in (items_view vs)
numbers_short [] h = refl
numbers_short (a ∷ []) h = refl
numbers_short (a ∷ b ∷ vs) h = absurd (omega arith)

pub numbers_long : (vs : List Value) → 3 ≤ length vs → None ≡ number_pair_in (items_view vs)
numbers_long [] h = absurd (omega arith)
numbers_long (a ∷ []) h = absurd (omega arith)
numbers_long (a ∷ b ∷ []) h = absurd (omega arith)
numbers_long (a ∷ b ∷ c ∷ vs) h = refl

pub units_short : (vs : List Value) → length vs < 2 → None ≡ unit_pair_in (items_view vs)
units_short [] h = refl
units_short (a ∷ []) h = refl
units_short (a ∷ b ∷ vs) h = absurd (omega arith)

pub units_long : (vs : List Value) → 3 ≤ length vs → None ≡ unit_pair_in (items_view vs)
units_long [] h = absurd (omega arith)
units_long (a ∷ []) h = absurd (omega arith)
units_long (a ∷ b ∷ []) h = absurd (omega arith)
units_long (a ∷ b ∷ c ∷ vs) h = refl

pub read_with_short : (vs : List Value) → length vs < 4 → None ≡ read_with_in (items_view vs)
read_with_short [] h = refl
read_with_short (a ∷ []) h = refl
read_with_short (a ∷ b ∷ []) h = refl
read_with_short (a ∷ b ∷ c ∷ []) h = refl
read_with_short (a ∷ b ∷ c ∷ d ∷ vs) h = absurd (omega arith)

pub read_with_long : (vs : List Value) → 5 ≤ length vs → None ≡ read_with_in (items_view vs)
read_with_long [] h = absurd (omega arith)
read_with_long (a ∷ []) h = absurd (omega arith)
read_with_long (a ∷ b ∷ []) h = absurd (omega arith)
read_with_long (a ∷ b ∷ c ∷ []) h = absurd (omega arith)
read_with_long (a ∷ b ∷ c ∷ d ∷ []) h = absurd (omega arith)
read_with_long (a ∷ b ∷ c ∷ d ∷ e ∷ vs) h = refl

pub said_short : (vs : List Value) → length vs < 4 → None ≡ said_items (items_view vs)
said_short [] h = refl
said_short (a ∷ []) h = refl
said_short (a ∷ b ∷ []) h = refl
said_short (a ∷ b ∷ c ∷ []) h = refl
said_short (a ∷ b ∷ c ∷ d ∷ vs) h = absurd (omega arith)

pub said_long : (vs : List Value) → 5 ≤ length vs → None ≡ said_items (items_view vs)
said_long [] h = absurd (omega arith)
said_long (a ∷ []) h = absurd (omega arith)
said_long (a ∷ b ∷ []) h = absurd (omega arith)
said_long (a ∷ b ∷ c ∷ []) h = absurd (omega arith)
said_long (a ∷ b ∷ c ∷ d ∷ []) h = absurd (omega arith)
said_long (a ∷ b ∷ c ∷ d ∷ e ∷ vs) h = refl

pub four_items : (vs : List Value) (a b c d : Value) → 4 ≤ length vs → length vs < 5 → a ≡ get_or vs 0 a → b ≡ get_or vs 1 b → c ≡ get_or vs 2 c
    → d ≡ get_or vs 3 d → item (view a) (item (view b) (item (view c) (item (view d) no_items))) ≡ items_view vs
four_items [] a b c d l u ea eb ec ed = absurd (omega arith)
four_items (p ∷ []) a b c d l u ea eb ec ed = absurd (omega arith)
four_items (p ∷ q ∷ []) a b c d l u ea eb ec ed = absurd (omega arith)
four_items (p ∷ q ∷ r ∷ []) a b c d l u ea eb ec ed = absurd (omega arith)
four_items (p ∷ q ∷ r ∷ s ∷ []) a b c d l u ea eb ec ed =
    ap (λ v. item (view v) (item (view b) (item (view c) (item (view d) no_items)))) ea
    ∙ (ap (λ v. item (view p) (item (view v) (item (view c) (item (view d) no_items)))) eb
    ∙ (ap (λ v. item (view p) (item (view q) (item (view v) (item (view d) no_items)))) ec
    ∙ ap (λ v. item (view p) (item (view q) (item (view r) (item (view v) no_items)))) ed))
four_items (p ∷ q ∷ r ∷ s ∷ t ∷ vs) a b c d l u ea eb ec ed = absurd (omega arith)

-- last lines by the count of their values, of which the first tells nothing

pub ending_of_two : (vs : List Value) (s : Value) → 2 ≤ length vs → length vs < 3 → s ≡ get_or vs 1 s
    → option_and_then alone_in (length_in (view s)) ≡ ending_items (items_view vs)
ending_of_two [] s l u e = absurd (omega arith)
ending_of_two (p ∷ []) s l u e = absurd (omega arith)
ending_of_two (p ∷ q ∷ []) s l u e = ap (λ v. option_and_then alone_in (length_in (view v))) e
ending_of_two (p ∷ q ∷ r ∷ vs) s l u e = absurd (omega arith)

pub ending_of_three : (vs : List Value) (s t : Value) → 3 ≤ length vs → length vs < 4 → s ≡ get_or vs 1 s → t ≡ get_or vs 2 t
    → option_and_then (λ n. option_and_then (worded_in n) (as_str (view t))) (length_in (view s)) ≡ ending_items (items_view vs)
ending_of_three [] s t l u e f = absurd (omega arith)
ending_of_three (p ∷ []) s t l u e f = absurd (omega arith)
ending_of_three (p ∷ q ∷ []) s t l u e f = absurd (omega arith)
ending_of_three (p ∷ q ∷ r ∷ []) s t l u e f =
    ap (λ v. option_and_then (λ n. option_and_then (worded_in n) (as_str (view t))) (length_in (view v))) e
    ∙ ap (λ v. option_and_then (λ n. option_and_then (worded_in n) (as_str (view v))) (length_in (view q))) f
ending_of_three (p ∷ q ∷ r ∷ w ∷ vs) s t l u e f = absurd (omega arith)

pub ending_of_four : (vs : List Value) (s t : Value) → 4 ≤ length vs → length vs < 5 → s ≡ get_or vs 2 s → t ≡ get_or vs 3 t
    → option_and_then (λ place. option_map (at_frame place) (option_and_then kind_in (as_str (view t)))) (length_in (view s)) ≡ ending_items (items_view vs)
ending_of_four [] s t l u e f = absurd (omega arith)
ending_of_four (p ∷ []) s t l u e f = absurd (omega arith)
ending_of_four (p ∷ q ∷ []) s t l u e f = absurd (omega arith)
ending_of_four (p ∷ q ∷ r ∷ []) s t l u e f = absurd (omega arith)
ending_of_four (p ∷ q ∷ r ∷ w ∷ []) s t l u e f =
    ap (λ v. option_and_then (λ place. option_map (at_frame place) (option_and_then kind_in (as_str (view t)))) (length_in (view v))) e
    ∙ ap (λ v. option_and_then (λ place. option_map (at_frame place) (option_and_then kind_in (as_str (view v)))) (length_in (view r))) f
ending_of_four (p ∷ q ∷ r ∷ w ∷ x ∷ vs) s t l u e f = absurd (omega arith)

pub ending_short : (vs : List Value) → length vs < 2 → None ≡ ending_items (items_view vs)
ending_short [] h = refl
ending_short (d ∷ []) h = refl
ending_short (d ∷ e ∷ vs) h = absurd (omega arith)

pub ending_long : (vs : List Value) → 5 ≤ length vs → None ≡ ending_items (items_view vs)
ending_long [] h = absurd (omega arith)
ending_long (d ∷ []) h = absurd (omega arith)
ending_long (d ∷ e ∷ []) h = absurd (omega arith)
ending_long (d ∷ e ∷ f ∷ []) h = absurd (omega arith)
ending_long (d ∷ e ∷ f ∷ g ∷ []) h = absurd (omega arith)
ending_long (d ∷ e ∷ f ∷ g ∷ h ∷ vs) l = refl

-- too few digits
pub few_digits : (text : List ℕ) → length text < 4 → 0 < length text → unhex_units text ≡ None
few_digits [] p q = absurd (omega arith)
few_digits (a ∷ []) p q = refl
few_digits (a ∷ b ∷ []) p q = refl
few_digits (a ∷ b ∷ c ∷ []) p q = refl
few_digits (a ∷ b ∷ c ∷ d ∷ rest) p q = absurd (omega arith)

pub one_digit_left : (text : List ℕ) → length text < 2 → 0 < length text → unhex_bytes text ≡ None
one_digit_left [] p q = absurd (omega arith)
one_digit_left (a ∷ []) p q = refl
one_digit_left (a ∷ b ∷ rest) p q = absurd (omega arith)

pub one_unit_left : (us : List ℕ) → length us < 2 → 0 < length us → cells_from us ≡ None
one_unit_left [] p q = absurd (omega arith)
one_unit_left (a ∷ []) p q = refl
one_unit_left (a ∷ b ∷ rest) p q = absurd (omega arith)

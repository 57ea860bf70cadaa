-- What is read as an argument of a kind is what is written of it, and the other way round.
use Rattle.std.proofs.Common.{◌≡◌, refl, sym, ap, subst, ◌∙◌, arith, ℕ, ◌^◌, ◌<◌, ◌≤◌, List, [], ◌∷◌, map, true, Option, Some, None, nat_lt, nat_le}
use Rattle.std.specs.Prelude.{ℤ, pos, negsuc, int_le, ◌&&◌, if◌then◌else◌, IfSome, option_map, option_and_then}
use Rattle.std.specs.List.{AllZip}
use Rattle.std.proofs.lemmas.Bool.{cond_both, and_parts, and_from}
use Rattle.std.proofs.lemmas.Bool.Decides.{nat_tests}
use Rattle.con_units.specs.declared.place.Rect.{Rect}
use Rattle.con_records.specs.declared.record.Record.{Record}
use Rattle.con_records.specs.declared.record.Record.TheVariants as record_of
use Rattle.con_events.specs.declared.call.Words.TheVariants.{One, Each}
use Rattle.con_events.specs.Words.Arg as arg
use Rattle.con_events.specs.Arg.{Arg, Number, Signed, OneUnit, Flag, Text, Area, Clip, WordsOf, WordList, Records}
use Rattle.con_events.specs.Words.Arg.{kind_of}
use Rattle.con_events.specs.Reading.{Item, row_from, whole as whole_from}
use Rattle.con_events.specs.Fits.{AreUnits, RectFits, RecordFits}
use Rattle.con_events.specs.Words.Fits.{IsSmall, RecordsFit, ArgsFit}
use Rattle.con_events.specs.RecordTable.{name_of_record, args_of_record, record_rows, row_of_record}
use Rattle.con_values.specs.Values.{below, number_in, unit_in, signed_in, rect_items, rect_in, clip_in}
use Rattle.con_values.specs.Values.{field, fields, record_items, record_in, records_items, records_in}
use Rattle.con_lines.specs.Shown.{list_of, natural, whole, rect_data, record_data, shown}
use Rattle.con_lines.specs.Words.Shown.{items}
use Rattle.serde_json.specs.Data.{Data, null, boolean, number, string, array, object, unsigned, negative, float, Items, no_items, item}
use Rattle.serde_json.specs.Find.{as_bool}
use Rattle.con_document.specs.Values.{text_in, units_items, list_in, words_in, written}
use Rattle.con_document.specs.Readers.{IsWritten}
use Rattle.con_document.specs.PlainLaws.{is_plain, are_plain, and_then_keeps, map_keeps, weaker}
use Rattle.con_document.specs.RowLaws.{IsShown, Names, ReadsAs, RowsTell, all_read, find_tells, items_listed, listed, row_read, zip_shown}

-- ---- what is read is written

below_is : (bound : ℕ) (d : Data) → IfSome (below bound d) (λ n. (d ≡ natural n) × (n < bound))
below_is bound (number (unsigned n)) = cond_both (nat_lt n bound) (Some n) None (λ o. IfSome o (λ m. (natural n ≡ natural m) × (m < bound)))
    (λ h. let less : n < bound = grind (arith, nat_tests) in (refl, less)) (λ h. tt)
below_is bound (number (negative z)) = tt
below_is bound (number (float x)) = tt
below_is bound null = tt
below_is bound (boolean b) = tt
below_is bound (string s) = tt
below_is bound (array ds) = tt
below_is bound (object ms) = tt

is_small : (z : ℤ) → (int_le (negsuc 32767) z && int_le z (pos 32767)) ≡ true → IsSmall z
is_small (pos n) h = let most : nat_le n 32767 ≡ true = h in grind (arith, nat_tests)
is_small (negsuc n) h = let most : nat_le n 32767 ≡ true = (and_parts (nat_le n 32767) true h).0 in grind (arith, nat_tests)

abbrev kept_small : ℤ → Option ℤ
kept_small z = if int_le (negsuc 32767) z && int_le z (pos 32767) then Some z else None

small_is : (z : ℤ) → IfSome (kept_small z) (λ y. (whole z ≡ whole y) × IsSmall y)
small_is z = cond_both (int_le (negsuc 32767) z && int_le z (pos 32767)) (Some z) None (λ o. IfSome o (λ y. (whole z ≡ whole y) × IsSmall y))
    (λ h. (refl, is_small z h)) (λ h. tt)

signed_is : (d : Data) → is_plain d ≡ true → IfSome (signed_in d) (λ z. (d ≡ whole z) × IsSmall z)
signed_is (number (unsigned n)) p = cond_both (nat_lt n (2 ^ 63)) (Some (pos n)) None
    (λ o. IfSome (option_and_then kept_small o) (λ z. (natural n ≡ whole z) × IsSmall z)) (λ h. small_is (pos n)) (λ h. tt)
signed_is (number (negative (pos n))) p = absurd (cc)
signed_is (number (negative (negsuc n))) p = small_is (negsuc n)
signed_is (number (float x)) p = tt
signed_is null p = tt
signed_is (boolean b) p = tt
signed_is (string s) p = tt
signed_is (array ds) p = tt
signed_is (object ms) p = tt

flag_is : (d : Data) → IfSome (as_bool d) (λ b. (d ≡ boolean b) × Unit {0})
flag_is (boolean b) = (refl, tt)
flag_is other = tt

abbrev IsSide : Data → ℤ → Type 0
IsSide d z = (d ≡ whole z) × IsSmall z

sides_are : (ds : Items) → are_plain ds ≡ true → IfSome (rect_items ds) (λ r. (array ds ≡ rect_data r) × RectFits r)
sides_are (item l (item t (item r (item b no_items)))) p =
    let left = and_parts (is_plain l) (are_plain (item t (item r (item b no_items)))) p in
    let top = and_parts (is_plain t) (are_plain (item r (item b no_items))) left.1 in
    let right = and_parts (is_plain r) (are_plain (item b no_items)) top.1 in
    let bottom = and_parts (is_plain b) true right.1 in
    let R = λ (x : Rect). (array (item l (item t (item r (item b no_items)))) ≡ rect_data x) × RectFits x in
    and_then_keeps (signed_in l) _ (IsSide l) R (signed_is l left.0) (λ w p.
    and_then_keeps (signed_in t) _ (IsSide t) R (signed_is t top.0) (λ x q.
    and_then_keeps (signed_in r) _ (IsSide r) R (signed_is r right.0) (λ y s.
    map_keeps (signed_in b) _ (IsSide b) R (signed_is b bottom.0) (λ z u.
    ((λ i. array (item (p.0 i) (item (q.0 i) (item (s.0 i) (item (u.0 i) no_items))))), (p.1, q.1, s.1, u.1))))))
sides_are no_items p = tt
sides_are (item l no_items) p = tt
sides_are (item l (item t no_items)) p = tt
sides_are (item l (item t (item r no_items))) p = tt
sides_are (item l (item t (item r (item b (item more ds))))) p = tt

rect_is : (d : Data) → is_plain d ≡ true → IfSome (rect_in d) (λ r. (d ≡ rect_data r) × RectFits r)
rect_is (array ds) p = sides_are ds p
rect_is other p = tt

clip_is : (d : Data) → is_plain d ≡ true → IfSome (clip_in d) (λ r. IsWritten (Clip r) d)
clip_is null p = (refl, tt)
clip_is (array ds) p = map_keeps (rect_items ds) Some (λ r. (array ds ≡ rect_data r) × RectFits r) (λ r. IsWritten (Clip r) (array ds))
    (sides_are ds p) (λ r q. q)
clip_is (boolean b) p = tt
clip_is (number n) p = tt
clip_is (string s) p = tt
clip_is (object ms) p = tt

text_is : (d : Data) → IfSome (text_in d) (λ us. IsWritten (Text us) d)
text_is (string s) = (s, refl, refl)
text_is other = tt

units_are : (ds : Items) → IfSome (units_items ds) (λ us. (ds ≡ items (map natural us)) × AreUnits us)
units_are no_items = (refl, tt)
units_are (item d ds) = and_then_keeps (unit_in d) _ (λ u. (d ≡ natural u) × (u < 65536)) (λ us. (item d ds ≡ items (map natural us)) × AreUnits us)
    (below_is 65536 d) (λ u p.
    map_keeps (units_items ds) _ (λ us. (ds ≡ items (map natural us)) × AreUnits us) (λ us. (item d ds ≡ items (map natural us)) × AreUnits us)
    (units_are ds) (λ us q. ((λ i. item (p.0 i) (q.0 i)), (p.1, q.1))))

list_is : (d : Data) → IfSome (list_in d) (λ us. IsWritten (WordList us) d)
list_is (array ds) = weaker (units_items ds) (λ us. (ds ≡ items (map natural us)) × AreUnits us) (λ us. IsWritten (WordList us) (array ds)) (units_are ds)
    (λ us q. (ap array q.0, q.1))
list_is other = tt

word_is : (d : Data) → IfSome (option_map One (unit_in d)) (λ w. IsWritten (WordsOf w) d)
word_is d = map_keeps (unit_in d) One (λ u. (d ≡ natural u) × (u < 65536)) (λ w. IsWritten (WordsOf w) d) (below_is 65536 d) (λ u p. p)

words_are : (d : Data) → IfSome (words_in d) (λ w. IsWritten (WordsOf w) d)
words_are (array ds) = map_keeps (units_items ds) Each (λ us. (ds ≡ items (map natural us)) × AreUnits us) (λ w. IsWritten (WordsOf w) (array ds))
    (units_are ds) (λ us q. (ap array q.0, q.1))
words_are other = word_is other

-- ---- records

abbrev record_told : Record → List ℕ × List Arg
record_told r = (name_of_record r, args_of_record r)

records_tell : RowsTell record_told record_rows
records_tell = ((λ xs. refl), ((λ xs. refl), ((λ xs. refl), ((λ xs. refl), ((λ xs. refl), tt)))))

record_names : (n : List ℕ) → IfSome (row_of_record n) (Names record_told n)
unfolding row_of_record
record_names n = find_tells record_told n record_rows None records_tell tt

field_reads : (d : Data) → is_plain d ≡ true → ReadsAs field IsShown d
field_reads d p arg.number = map_keeps (number_in d) Number (λ n. (d ≡ natural n) × (n < 4294967296)) _ (below_is 4294967296 d) (λ n q. (refl, q))
field_reads d p arg.signed = map_keeps (signed_in d) Signed (IsSide d) _ (signed_is d p) (λ z q. (refl, q))
field_reads d p arg.unit = map_keeps (unit_in d) OneUnit (λ u. (d ≡ natural u) × (u < 65536)) _ (below_is 65536 d) (λ u q. (refl, q))
field_reads d p arg.flag = map_keeps (as_bool d) Flag (λ b. (d ≡ boolean b) × Unit {0}) _ (flag_is d) (λ b q. (refl, q))
field_reads d p other = tt

record_shown : (r : Record) → list_of (string (name_of_record r) ∷ map shown (args_of_record r)) ≡ record_data r
record_shown (record_of.Key k) = refl
record_shown (record_of.Mouse m) = refl
record_shown (record_of.Size s) = refl
record_shown (record_of.Menu n) = refl
record_shown (record_of.Focus b) = refl

record_fits : (r : Record) → ArgsFit (args_of_record r) → RecordFits r
record_fits (record_of.Key k) p = (p.1.0, p.1.1.0, p.1.1.1.0, p.1.1.1.1.0, p.1.1.1.1.1.0)
record_fits (record_of.Mouse m) p = (p.0, p.1.0, p.1.1.0, p.1.1.1.0, p.1.1.1.1.0)
record_fits (record_of.Size s) p = (p.0, p.1.0)
record_fits (record_of.Menu n) p = p.0
record_fits (record_of.Focus b) p = tt

fields_listed : (ds : Items) → fields ds ≡ map field (listed ds)
fields_listed no_items = refl
fields_listed (item d ds) = ap (λ (fs : List Item). field d ∷ fs) (fields_listed ds)

abbrev IsRecord : Data → Record → Type 0
IsRecord d r = (d ≡ record_data r) × RecordFits r

-- it has the record's name and fields
abbrev IsNamed : List ℕ → Items → Record → Type 0
IsNamed n ds r = (name_of_record r ≡ n) × AllZip IsShown (args_of_record r) (listed ds)

record_by : (n : List ℕ) (ds : Items) (r : Record) → IsNamed n ds r → IsRecord (array (item (string n) ds)) r
record_by n ds r p =
    let z = zip_shown (args_of_record r) (listed ds) p.1 in
    let same : ds ≡ items (map shown (args_of_record r)) = sym (items_listed ds) ∙ ap items z.0 in
    let spelled : array (item (string n) ds) ≡ list_of (string (name_of_record r) ∷ map shown (args_of_record r)) =
    λ i. array (item (string (sym p.0 i)) (same i)) in
    (spelled ∙ record_shown r, record_fits r z.1)

named_is : (n : List ℕ) (ds : Items) → are_plain ds ≡ true → IfSome (record_items (item (string n) ds)) (IsRecord (array (item (string n) ds)))
named_is n ds p =
    let found = λ (fs : List Item). whole_from (row_from (row_of_record n) fs) in
    let read = row_read record_told field IsShown n (row_of_record n) (listed ds) (record_names n) (all_read field IsShown field_reads ds p) in
    subst (λ (fs : List Item). IfSome (found fs) (IsRecord (array (item (string n) ds)))) (sym (fields_listed ds))
    (weaker (found (map field (listed ds))) (IsNamed n ds) (IsRecord (array (item (string n) ds))) read (record_by n ds))

fields_are : (ds : Items) → are_plain ds ≡ true → IfSome (record_items ds) (IsRecord (array ds))
fields_are (item (string n) ds) p = named_is n ds p
fields_are other p = tt

record_is : (d : Data) → is_plain d ≡ true → IfSome (record_in d) (IsRecord d)
record_is (array ds) p = fields_are ds p
record_is other p = tt

records_are : (ds : Items) → are_plain ds ≡ true → IfSome (records_items ds) (λ rs. (ds ≡ items (map record_data rs)) × RecordsFit rs)
records_are no_items p = (refl, tt)
records_are (item d ds) p =
    let parts = and_parts (is_plain d) (are_plain ds) p in
    and_then_keeps (record_in d) _ (IsRecord d) (λ rs. (item d ds ≡ items (map record_data rs)) × RecordsFit rs) (record_is d parts.0) (λ r q.
    map_keeps (records_items ds) _ (λ rs. (ds ≡ items (map record_data rs)) × RecordsFit rs) (λ rs. (item d ds ≡ items (map record_data rs)) × RecordsFit rs)
    (records_are ds parts.1) (λ rs s. ((λ i. item (q.0 i) (s.0 i)), (q.1, s.1))))

all_are : (d : Data) → is_plain d ≡ true → IfSome (records_in d) (λ rs. IsWritten (Records rs) d)
all_are (array ds) p = weaker (records_items ds) (λ rs. (ds ≡ items (map record_data rs)) × RecordsFit rs) (λ rs. IsWritten (Records rs) (array ds))
    (records_are ds p) (λ rs q. (ap array q.0, q.1))
all_are other p = tt

pub written_reads : (d : Data) → is_plain d ≡ true → ReadsAs written IsWritten d
written_reads d p arg.number = map_keeps (number_in d) Number (λ n. (d ≡ natural n) × (n < 4294967296)) _ (below_is 4294967296 d) (λ n q. (refl, q))
written_reads d p arg.signed = map_keeps (signed_in d) Signed (IsSide d) _ (signed_is d p) (λ z q. (refl, q))
written_reads d p arg.unit = map_keeps (unit_in d) OneUnit (λ u. (d ≡ natural u) × (u < 65536)) _ (below_is 65536 d) (λ u q. (refl, q))
written_reads d p arg.flag = map_keeps (as_bool d) Flag (λ b. (d ≡ boolean b) × Unit {0}) _ (flag_is d) (λ b q. (refl, q))
written_reads d p arg.text = map_keeps (text_in d) Text (λ us. IsWritten (Text us) d) _ (text_is d) (λ us q. (refl, q))
written_reads d p arg.rect = map_keeps (rect_in d) Area (λ r. (d ≡ rect_data r) × RectFits r) _ (rect_is d p) (λ r q. (refl, q))
written_reads d p arg.clip = map_keeps (clip_in d) Clip (λ r. IsWritten (Clip r) d) _ (clip_is d p) (λ r q. (refl, q))
written_reads d p arg.words = map_keeps (words_in d) WordsOf (λ w. IsWritten (WordsOf w) d) _ (words_are d) (λ w q. (refl, q))
written_reads d p arg.list = map_keeps (list_in d) WordList (λ us. IsWritten (WordList us) d) _ (list_is d) (λ us q. (refl, q))
written_reads d p arg.records = map_keeps (records_in d) Records (λ rs. IsWritten (Records rs) d) _ (all_are d p) (λ rs q. (refl, q))

-- ---- what is written is read

is_below : (n m : ℕ) → n < m → nat_lt n m ≡ true
is_below n m h = grind (arith, nat_tests)

is_most : (n m : ℕ) → n ≤ m → nat_le n m ≡ true
is_most n m h = grind (arith, nat_tests)

small_back : (z : ℤ) → IsSmall z → signed_in (whole z) ≡ Some z
small_back (pos n) p = rw (is_below n 9223372036854775808 (omega (arith, p)), is_most n 32767 (omega (arith, p))) refl
small_back (negsuc n) p = rw (is_most n 32767 (omega (arith, p))) refl

rect_back : (r : Rect) → RectFits r → rect_in (rect_data r) ≡ Some r
rect_back r p = rw (small_back r.left p.0, small_back r.top p.1, small_back r.right p.2, small_back r.bottom p.3) refl

record_back : (r : Record) → RecordFits r → record_in (record_data r) ≡ Some r
unfolding row_of_record
record_back (record_of.Key k) p = rw (
  is_below k.repeat 65536 p.0,
  is_below k.vk 65536 p.1,
  is_below k.scan 65536 p.2,
  is_below k.unit 65536 p.3,
  is_below k.state 4294967296 p.4,
) refl
record_back (record_of.Mouse m) p = rw (
  small_back m.x p.0,
  small_back m.y p.1,
  is_below m.buttons 4294967296 p.2,
  is_below m.state 4294967296 p.3,
  is_below m.flags 4294967296 p.4,
) refl
record_back (record_of.Size s) p = rw (is_below s.w 65536 p.0, is_below s.h 65536 p.1) refl
record_back (record_of.Menu n) p = rw (is_below n 4294967296 p) refl
record_back (record_of.Focus b) p = refl

records_back : (rs : List Record) → RecordsFit rs → records_items (items (map record_data rs)) ≡ Some rs
records_back [] p = refl
records_back (r ∷ rs) p = rw (record_back r p.0, records_back rs p.1) refl

units_back : (us : List ℕ) → AreUnits us → units_items (items (map natural us)) ≡ Some us
units_back [] p = refl
units_back (u ∷ us) p = rw (is_below u 65536 p.0, units_back us p.1) refl

pub written_back : (a : Arg) (d : Data) → IsWritten a d → written d (kind_of a) ≡ Some a
written_back (Number n) d p = rw (p.0, is_below n 4294967296 p.1) refl
written_back (Signed z) d p = rw (p.0, small_back z p.1) refl
written_back (OneUnit u) d p = rw (p.0, is_below u 65536 p.1) refl
written_back (Flag b) d p = rw p.0 refl
written_back (Text us) d p = rw p.1 (ap (λ (xs : List ℕ). Some (Text xs)) p.2)
written_back (Area r) d p = rw (p.0, rect_back r p.1) refl
written_back (Clip None) d p = rw p.0 refl
written_back (Clip (Some r)) d p = rw (p.0, rect_back r p.1) refl
written_back (WordsOf (One w)) d p = rw (p.0, is_below w 65536 p.1) refl
written_back (WordsOf (Each ws)) d p = rw (p.0, units_back ws p.1) refl
written_back (WordList ws) d p = rw (p.0, units_back ws p.1) refl
written_back (Records rs) d p = rw (p.0, records_back rs p.1) refl

-- ---- what is written is as values are read

whole_plain : (z : ℤ) → is_plain (whole z) ≡ true
whole_plain (pos n) = refl
whole_plain (negsuc n) = refl

rect_plain : (r : Rect) → is_plain (rect_data r) ≡ true
rect_plain r = rw (whole_plain r.left, whole_plain r.top, whole_plain r.right, whole_plain r.bottom) refl

record_plain : (r : Record) → is_plain (record_data r) ≡ true
record_plain (record_of.Key k) = refl
record_plain (record_of.Mouse m) = rw (whole_plain m.x, whole_plain m.y) refl
record_plain (record_of.Size s) = refl
record_plain (record_of.Menu n) = refl
record_plain (record_of.Focus b) = refl

records_plain : (rs : List Record) → are_plain (items (map record_data rs)) ≡ true
records_plain [] = refl
records_plain (r ∷ rs) = and_from (is_plain (record_data r)) (are_plain (items (map record_data rs))) (record_plain r) (records_plain rs)

naturals_plain : (us : List ℕ) → are_plain (items (map natural us)) ≡ true
naturals_plain [] = refl
naturals_plain (u ∷ us) = naturals_plain us

written_plain : (a : Arg) (d : Data) → IsWritten a d → is_plain d ≡ true
written_plain (Number n) d p = ap is_plain p.0
written_plain (Signed z) d p = ap is_plain p.0 ∙ whole_plain z
written_plain (OneUnit u) d p = ap is_plain p.0
written_plain (Flag b) d p = ap is_plain p.0
written_plain (Text us) d p = ap is_plain p.1
written_plain (Area r) d p = ap is_plain p.0 ∙ rect_plain r
written_plain (Clip None) d p = ap is_plain p.0
written_plain (Clip (Some r)) d p = ap is_plain p.0 ∙ rect_plain r
written_plain (WordsOf (One w)) d p = ap is_plain p.0
written_plain (WordsOf (Each ws)) d p = ap is_plain p.0 ∙ naturals_plain ws
written_plain (WordList ws) d p = ap is_plain p.0 ∙ naturals_plain ws
written_plain (Records rs) d p = ap is_plain p.0 ∙ records_plain rs

pub all_plain : (xs : List Arg) (ds : List Data) → AllZip IsWritten xs ds → are_plain (items ds) ≡ true
all_plain [] [] z = refl
all_plain [] (d ∷ ds) z = absurd z
all_plain (a ∷ xs) [] z = absurd z
all_plain (a ∷ xs) (d ∷ ds) z = and_from (is_plain d) (are_plain (items ds)) (written_plain a d z.0) (all_plain xs ds z.1)

-- What a line tells fits: it is within what types keep, and of its event's form.
use Rattle.std.proofs.Common.{◌≡◌, refl, subst, arith, ℕ, ◌*◌, ◌+◌, ◌-◌, ◌<◌, List, [], ◌∷◌, length, Option, Some, None, true, nat_lt, nat_le}
use Rattle.std.specs.Prelude.{ℤ, pos, negsuc, IsTrue, IfSome, int_le, ◌&&◌, ◌==◌, option_map, option_and_then, if◌then◌else◌, codes}
use Rattle.std.specs.Int.{is_in_range}
use Rattle.std.specs.Str.{bytes_eq}
use Rattle.std.proofs.lemmas.Bool.{cond_both, and_parts}
use Rattle.std.proofs.lemmas.Bool.Decides.{nat_tests}
use Rattle.std.proofs.lemmas.Nat.{and_assoc, and_le_l}
use Rattle.con_units.specs.Attr.{plain}
use Rattle.con_units.specs.Words.Attr.{masked}
use Rattle.con_units.specs.Glyph.{Glyph, cell_of}
use Rattle.con_units.specs.Stored.{is_shown, stored_unit}
use Rattle.con_events.specs.declared.actor.Actor.{Actor}
use Rattle.con_events.specs.declared.actor.Actor.TheVariants as actor
use Rattle.con_events.specs.declared.call.Words.TheVariants.{One, Each}
use Rattle.con_events.specs.declared.event.Event.{Event}
use Rattle.con_events.specs.declared.event.Event.TheVariants as event
use Rattle.con_events.specs.declared.reply.Reply.{Reply}
use Rattle.con_events.specs.declared.reply.Reply.TheVariants as reply
use Rattle.con_events.specs.Words.Arg as arg
use Rattle.con_events.specs.Arg.{Number, Signed, OneUnit, Flag, Text, Area, Clip, WordsOf, WordList, Records}
use Rattle.con_events.specs.Actors.{is_clients}
use Rattle.con_events.specs.Fits.{AreUnits, RectFits, RecordFits, ArgFits}
use Rattle.con_events.specs.Words.Fits.{IsSmall, RecordsFit}
use Rattle.con_values.specs.Values.{below, number_in, unit_in, signed_in, four, rect_items, rect_in, clip_in, field, fields, record_items, record_in, records_items, records_in}
use Rattle.serde_json.specs.Data.{Data, null, boolean, number, string, array, object, Items, no_items, item}
use Rattle.serde_json.specs.Find.{as_number, as_u64, as_i64, as_bool, as_str, as_array}
use Rattle.con_events.specs.declared.form.Form.{Form}
use Rattle.con_events.specs.declared.form.Form.TheVariants as form
use Rattle.con_lines.specs.declared.said.Said.{Said}
use Rattle.con_lines.specs.Form.{form_of}
use Rattle.con_lines.specs.Shown.{cell_words}
use Rattle.con_lines.specs.Fits.{IsOwn, EventFits, ReplyFits, refused, is_done, is_number, are_fields, number_and_flag, are_sides, are_ids, are_units, are_records, are_cells, are_lines, waited_units, waited_records, is_control, AnswerFits, IsLine}
use Rattle.con_lines.specs.Words.Fits.{AreBytes, IsWhole, AreWhole, AreTexts, AreRead}
use Rattle.con_lines.specs.Told.{hex_value, with_digit, byte_told, unit_told, with_first, unhex_units, unhex_bytes, kept_whole, kept_length, whole_in, units_in, all_in, words_in, told, as_told, code_of, only, is_bare, if_many, number_and_flag_in, array_only, cells_from, cells_in, wait_in, value_in, control_in, fail_in, answer_named, answer_items, reply_in, number_pair_in, unit_pair_in, pair, read_with_in, none_in, feed_in, call_in, of_terminal, of_client, of_painter, event_in, unless_zero, one_digit, digits_after, client_in, actor_in, length_in, painted_in, answer_in, said_by, said_items, said_in}
use Rattle.con_lines.proofs.TablesFit.{and_then_keeps, map_keeps, ItemFits, ItemsFit, call_fits, record_fits}

pub any : {A : Type 0} (o : Option A) → IfSome o (λ _. Unit {0})
any None = tt
any (Some a) = tt

-- ---- numbers

under : (m n : ℕ) → IfSome (if nat_lt n m then Some n else None) (λ k. k < m)
under m n = cond_both (nat_lt n m) (Some n) None (λ o. IfSome o (λ k. k < m)) (λ h. grind (arith, nat_tests)) (λ h. tt)

below_fits : (m : ℕ) (d : Data) → IfSome (below m d) (λ n. n < m)
below_fits m d = and_then_keeps (option_and_then as_u64 (as_number d)) _ (λ _. Unit {0}) (λ n. n < m) (any (option_and_then as_u64 (as_number d))) (λ n p. under m n)

small : (z : ℤ) → IfSome (if int_le (negsuc 32767) z && int_le z (pos 32767) then Some z else None) IsSmall
small (pos n) = cond_both (nat_le n 32767) (Some (pos n)) None (λ o. IfSome o IsSmall) (λ h. grind (arith, nat_tests)) (λ h. tt)
small (negsuc n) = cond_both (nat_le n 32767 && true) (Some (negsuc n)) None (λ o. IfSome o IsSmall) (λ h. let p = (and_parts (nat_le n 32767) true h).0 in grind (arith, nat_tests)) (λ h. tt)

signed_fits : (d : Data) → IfSome (signed_in d) IsSmall
signed_fits d = and_then_keeps (option_and_then as_i64 (as_number d)) _ (λ _. Unit {0}) IsSmall (any (option_and_then as_i64 (as_number d))) (λ z p. small z)

within : (z : ℤ) → IfSome (kept_whole z) IsWhole
within (pos n) = cond_both (nat_le n 9223372036854775807) (Some (pos n)) None (λ o. IfSome o IsWhole) (λ h. grind (arith, nat_tests)) (λ h. tt)
within (negsuc n) = cond_both (nat_le n 9223372036854775807 && true) (Some (negsuc n)) None (λ o. IfSome o IsWhole) (λ h. let p = (and_parts (nat_le n 9223372036854775807) true h).0 in grind (arith, nat_tests)) (λ h. tt)

whole_fits : (d : Data) → IfSome (whole_in d) IsWhole
whole_fits d = and_then_keeps (option_and_then as_i64 (as_number d)) kept_whole (λ _. Unit {0}) IsWhole (any (option_and_then as_i64 (as_number d))) (λ z p. within z)

pub length_fits : (d : Data) → IfSome (length_in d) (λ n. n < 18446744073709551616)
length_fits d = and_then_keeps (option_and_then as_u64 (as_number d)) kept_length (λ _. Unit {0}) (λ n. n < 18446744073709551616) (any (option_and_then as_u64 (as_number d))) (λ n p. under 18446744073709551616 n)

-- ---- digits

value_fits : (c : ℕ) → IfSome (hex_value c) (λ d. d < 16)
value_fits c = cond_both (is_in_range 48 57 c) (Some (c - 48)) _ (λ o. IfSome o (λ d. d < 16)) (λ h. let p = (and_parts (nat_le 48 c) (nat_le c 57) h) in grind (arith, nat_tests))
    (λ h. cond_both (is_in_range 97 102 c) (Some (c - 87)) None (λ o. IfSome o (λ d. d < 16)) (λ h. let p = (and_parts (nat_le 97 c) (nat_le c 102) h) in grind (arith, nat_tests)) (λ h. tt))

digit_fits : (m : ℕ) (high : Option ℕ) (c : ℕ) → IfSome high (λ n. n < m) → IfSome (with_digit high c) (λ n. n < m * 16)
digit_fits m high c p = and_then_keeps high _ (λ n. n < m) (λ n. n < m * 16) p
    (λ n q. map_keeps (hex_value c) _ (λ d. d < 16) (λ n. n < m * 16) (value_fits c) (λ d r. omega (arith, q, r)))

first_keeps : {A : Type 0} (o : Option A) (rest : Option (List A)) (P : A → Type 0) (Q : List A → Type 0) (R : List A → Type 0) → IfSome o P → IfSome rest Q → ((x : A) (xs : List A) → P x → Q xs → R (x ∷ xs)) → IfSome (with_first o rest) R
first_keeps o rest P Q R p q h = and_then_keeps o _ P R p (λ x r. map_keeps rest _ Q R q (λ xs s. h x xs r s))

byte_fits : (a b : ℕ) → IfSome (byte_told a b) (λ n. n < 256)
unfolding byte_told
byte_fits a b = digit_fits 16 (hex_value a) b (value_fits a)

unit_fits : (a b c d : ℕ) → IfSome (unit_told a b c d) (λ n. n < 65536)
unfolding unit_told
unit_fits a b c d = digit_fits 4096 (with_digit (with_digit (hex_value a) b) c) d (digit_fits 256 (with_digit (hex_value a) b) c (digit_fits 16 (hex_value a) b (value_fits a)))

units_fit : (text : List ℕ) → IfSome (unhex_units text) AreUnits
units_fit [] = tt
units_fit (a ∷ []) = tt
units_fit (a ∷ b ∷ []) = tt
units_fit (a ∷ b ∷ c ∷ []) = tt
units_fit (a ∷ b ∷ c ∷ d ∷ rest) = first_keeps (unit_told a b c d) (unhex_units rest) (λ u. u < 65536) AreUnits AreUnits (unit_fits a b c d) (units_fit rest) (λ x xs p q. (p, q))

bytes_fit : (text : List ℕ) → IfSome (unhex_bytes text) AreBytes
bytes_fit [] = tt
bytes_fit (a ∷ []) = tt
bytes_fit (a ∷ b ∷ rest) = first_keeps (byte_told a b) (unhex_bytes rest) (λ u. u < 256) AreBytes AreBytes (byte_fits a b) (bytes_fit rest) (λ x xs p q. (p, q))

text_fits : (d : Data) → IfSome (units_in d) AreUnits
text_fits d = and_then_keeps (as_str d) unhex_units (λ _. Unit {0}) AreUnits (any (as_str d)) (λ s p. units_fit s)

-- ---- rectangles and records

four_fit : (l t r b : Option ℤ) → IfSome l IsSmall → IfSome t IsSmall → IfSome r IsSmall → IfSome b IsSmall → IfSome (four l t r b) RectFits
four_fit l t r b p q s u = and_then_keeps l _ IsSmall RectFits p (λ x xp. and_then_keeps t _ IsSmall RectFits q (λ y yp. and_then_keeps r _ IsSmall RectFits s (λ z zp. map_keeps b _ IsSmall RectFits u (λ w wp. (xp, yp, zp, wp)))))

sides_fit : (ds : Items) → IfSome (rect_items ds) RectFits
sides_fit no_items = tt
sides_fit (item l no_items) = tt
sides_fit (item l (item t no_items)) = tt
sides_fit (item l (item t (item r no_items))) = tt
sides_fit (item l (item t (item r (item b no_items)))) = four_fit (signed_in l) (signed_in t) (signed_in r) (signed_in b) (signed_fits l) (signed_fits t) (signed_fits r) (signed_fits b)
sides_fit (item l (item t (item r (item b (item more ds))))) = tt

rect_fits : (d : Data) → IfSome (rect_in d) RectFits
rect_fits d = and_then_keeps (as_array d) rect_items (λ _. Unit {0}) RectFits (any (as_array d)) (λ ds p. sides_fit ds)

field_fits : (d : Data) → ItemFits (field d)
field_fits d arg.number = map_keeps (number_in d) Number (λ n. n < 4294967296) _ (below_fits 4294967296 d) (λ n p. (refl, p))
field_fits d arg.signed = map_keeps (signed_in d) Signed IsSmall _ (signed_fits d) (λ n p. (refl, p))
field_fits d arg.unit = map_keeps (unit_in d) OneUnit (λ n. n < 65536) _ (below_fits 65536 d) (λ n p. (refl, p))
field_fits d arg.flag = map_keeps (as_bool d) Flag (λ _. Unit {0}) _ (any (as_bool d)) (λ b p. (refl, tt))
field_fits d other = tt

fields_fit : (ds : Items) → ItemsFit (fields ds)
fields_fit no_items = tt
fields_fit (item d ds) = (field_fits d, fields_fit ds)

named_fits : (ds : Items) → IfSome (record_items ds) RecordFits
named_fits no_items = tt
named_fits (item name ds) = and_then_keeps (as_str name) _ (λ _. Unit {0}) RecordFits (any (as_str name)) (λ n p. record_fits n (fields ds) (fields_fit ds))

one_fits : (d : Data) → IfSome (record_in d) RecordFits
one_fits d = and_then_keeps (as_array d) record_items (λ _. Unit {0}) RecordFits (any (as_array d)) (λ ds p. named_fits ds)

each_fits : (ds : Items) → IfSome (records_items ds) RecordsFit
each_fits no_items = tt
each_fits (item d ds) = and_then_keeps (record_in d) _ RecordFits RecordsFit (one_fits d) (λ r p. map_keeps (records_items ds) _ RecordsFit RecordsFit (each_fits ds) (λ rs q. (p, q)))

records_fit : (d : Data) → IfSome (records_in d) RecordsFit
records_fit d = and_then_keeps (as_array d) records_items (λ _. Unit {0}) RecordsFit (any (as_array d)) (λ ds p. each_fits ds)

-- ---- arguments

clip_fits : (d : Data) → IfSome (clip_in d) (λ r. ArgFits (Clip r))
clip_fits null = tt
clip_fits (boolean b) = tt
clip_fits (number n) = tt
clip_fits (string s) = tt
clip_fits (array ds) = map_keeps (rect_items ds) Some RectFits _ (sides_fit ds) (λ r p. p)
clip_fits (object ms) = tt

word_fits : (d : Data) → IfSome (option_map One (unit_in d)) (λ w. ArgFits (WordsOf w))
word_fits d = map_keeps (unit_in d) One (λ n. n < 65536) _ (below_fits 65536 d) (λ n p. p)

words_fit : (d : Data) → IfSome (words_in d) (λ w. ArgFits (WordsOf w))
words_fit (string s) = map_keeps (unhex_units s) Each AreUnits _ (units_fit s) (λ us p. p)
words_fit other = word_fits other

told_fits : (d : Data) → ItemFits (told d)
told_fits d arg.number = map_keeps (number_in d) Number (λ n. n < 4294967296) _ (below_fits 4294967296 d) (λ n p. (refl, p))
told_fits d arg.signed = map_keeps (signed_in d) Signed IsSmall _ (signed_fits d) (λ n p. (refl, p))
told_fits d arg.unit = map_keeps (unit_in d) OneUnit (λ n. n < 65536) _ (below_fits 65536 d) (λ n p. (refl, p))
told_fits d arg.flag = map_keeps (as_bool d) Flag (λ _. Unit {0}) _ (any (as_bool d)) (λ b p. (refl, tt))
told_fits d arg.text = map_keeps (units_in d) Text AreUnits _ (text_fits d) (λ us p. (refl, p))
told_fits d arg.rect = map_keeps (rect_in d) Area RectFits _ (rect_fits d) (λ r p. (refl, p))
told_fits d arg.clip = map_keeps (clip_in d) Clip (λ r. ArgFits (Clip r)) _ (clip_fits d) (λ r p. (refl, p))
told_fits d arg.words = map_keeps (words_in d) WordsOf (λ w. ArgFits (WordsOf w)) _ (words_fit d) (λ w p. (refl, p))
told_fits d arg.list = map_keeps (units_in d) WordList AreUnits _ (text_fits d) (λ us p. (refl, p))
told_fits d arg.records = map_keeps (records_in d) Records RecordsFit _ (records_fit d) (λ rs p. (refl, p))

all_told_fit : (ds : Items) → ItemsFit (as_told ds)
all_told_fit no_items = tt
all_told_fit (item d ds) = (told_fits d, all_told_fit ds)

-- ---- answers

wholes_fit : (ds : Items) → IfSome (all_in whole_in ds) AreWhole
wholes_fit no_items = tt
wholes_fit (item d ds) = first_keeps (whole_in d) (all_in whole_in ds) IsWhole AreWhole AreWhole (whole_fits d) (wholes_fit ds) (λ x xs p q. (p, q))

texts_fit : (ds : Items) → IfSome (all_in units_in ds) AreTexts
texts_fit no_items = tt
texts_fit (item d ds) = first_keeps (units_in d) (all_in units_in ds) AreUnits AreTexts AreTexts (text_fits d) (texts_fit ds) (λ x xs p q. (p, q))

many_fit : (n : ℕ) (zs : List ℤ) → AreWhole zs → IfSome (if_many n zs) (λ xs. (length xs ≡ n) × AreWhole xs)
many_fit n zs p = cond_both (length zs == n) (Some zs) None (λ o. IfSome o (λ xs. (length xs ≡ n) × AreWhole xs)) (λ h. (grind (arith, nat_tests), p)) (λ h. tt)

flagged_fits : (ds : Items) → IfSome (option_map reply.Numbers (number_and_flag_in ds)) (ReplyFits form.NumberAndFlag)
flagged_fits no_items = tt
flagged_fits (item d no_items) = tt
flagged_fits (item d (item b no_items)) = map_keeps (number_and_flag_in (item d (item b no_items))) reply.Numbers (λ zs. ReplyFits form.NumberAndFlag (reply.Numbers zs)) (ReplyFits form.NumberAndFlag)
    (and_then_keeps (whole_in d) _ IsWhole (λ zs. ReplyFits form.NumberAndFlag (reply.Numbers zs)) (whole_fits d) (λ z p. map_keeps (as_bool b) _ (λ _. Unit {0}) (λ zs. ReplyFits form.NumberAndFlag (reply.Numbers zs)) (any (as_bool b)) (λ b q. number_and_flag z b p))) (λ zs p. p)
flagged_fits (item d (item b (item more ds))) = tt

-- cells made of units and words are read as they are
shown_stays : (u : ℕ) → is_shown u ≡ true → stored_unit u ≡ u
shown_stays u h = rw h refl

replaced_stays : stored_unit 0xFFFD ≡ 0xFFFD
unfolding is_shown
replaced_stays = refl

stored_twice : (u : ℕ) → stored_unit (stored_unit u) ≡ stored_unit u
stored_twice u = cond_both (is_shown u) u 0xFFFD (λ v. stored_unit v ≡ v) (λ h. shown_stays u h) (λ h. replaced_stays)

masked_twice : (w : ℕ) → masked (masked w) ≡ masked w
masked_twice w = and_assoc 0xC0FF w 0xC0FF

cell_twice : (u w : ℕ) → cell_of (cell_of u (plain w)).unit (plain (cell_of u (plain w)).attr.word) ≡ cell_of u (plain w)
cell_twice u w = rw (stored_twice u, masked_twice w) refl

stored_fits : (u : ℕ) → u < 65536 → stored_unit u < 65536
stored_fits u p = cond_both (is_shown u) u 0xFFFD (λ v. v < 65536) (λ h. p) (λ h. omega arith)

masked_fits : (w : ℕ) → w < 65536 → masked w < 65536
masked_fits w p = omega (arith, and_le_l w 0xC0FF, p)

abbrev CellsFit : List Glyph → Type 0
CellsFit gs = AreUnits (cell_words gs) × AreRead gs

made_fit : (us : List ℕ) → AreUnits us → IfSome (cells_from us) CellsFit
made_fit [] p = (tt, tt)
made_fit (u ∷ []) p = tt
made_fit (u ∷ w ∷ us) p = first_keeps (Some (cell_of u (plain w))) (cells_from us) (λ g. g ≡ cell_of u (plain w)) CellsFit CellsFit refl (made_fit us p.1.1)
    (λ g gs e q. rw e ((stored_fits u p.0, (masked_fits w p.1.0, q.0)), (cell_twice u w, q.1)))

cells_fit : (ds : Items) → IfSome (cells_in ds) (ReplyFits form.Cells)
cells_fit no_items = tt
cells_fit (item r no_items) = tt
cells_fit (item r (item gs no_items)) = and_then_keeps (rect_in r) _ RectFits (ReplyFits form.Cells) (rect_fits r)
    (λ r p. map_keeps (option_and_then cells_from (units_in gs)) _ CellsFit (ReplyFits form.Cells)
    (and_then_keeps (units_in gs) cells_from AreUnits CellsFit (text_fits gs) (λ us q. made_fit us q))
    (λ gs q. are_cells r gs p q.0 q.1))
cells_fit (item r (item gs (item more ds))) = tt

wait_records : (d : Data) → IfSome (option_map reply.Records (records_in d)) (ReplyFits form.Wait)
wait_records d = map_keeps (records_in d) reply.Records RecordsFit (ReplyFits form.Wait) (records_fit d) (λ rs p. waited_records rs p)

wait_fits : (d : Data) → IfSome (wait_in d) (ReplyFits form.Wait)
wait_fits (string s) = map_keeps (unhex_units s) reply.Units AreUnits (ReplyFits form.Wait) (units_fit s) (λ us p. waited_units us p)
wait_fits other = wait_records other

-- of the one item
only_keeps : {A : Type 0} (ds : Items) (f : Data → Option A) (Q : A → Type 0) → ((d : Data) → IfSome (f d) Q) → IfSome (option_and_then f (only ds)) Q
only_keeps ds f Q h = and_then_keeps (only ds) f (λ _. Unit {0}) Q (any (only ds)) (λ d p. h d)

array_keeps : {A : Type 0} (ds : Items) (f : Items → Option A) (Q : A → Type 0) → ((es : Items) → IfSome (f es) Q) → IfSome (option_and_then f (array_only ds)) Q
array_keeps ds f Q h = and_then_keeps (array_only ds) f (λ _. Unit {0}) Q (any (array_only ds)) (λ d p. h d)

value_is : (f : Form) (ds : Items) → IfSome (value_in f ds) (ReplyFits f)
value_is form.Nothing ds = cond_both (is_bare ds) (Some reply.Done) None (λ o. IfSome o (ReplyFits form.Nothing)) (λ h. is_done) (λ h. tt)
value_is form.Number ds = map_keeps (option_and_then number_in (only ds)) reply.Number (λ n. n < 4294967296) (ReplyFits form.Number) (only_keeps ds number_in (λ n. n < 4294967296) (λ d. below_fits 4294967296 d)) (λ n p. is_number n p)
value_is (form.Fields n) ds = map_keeps (option_and_then (if_many n) (all_in whole_in ds)) reply.Numbers (λ zs. (length zs ≡ n) × AreWhole zs) (ReplyFits (form.Fields n))
    (and_then_keeps (all_in whole_in ds) (if_many n) AreWhole _ (wholes_fit ds) (λ zs p. many_fit n zs p)) (λ zs p. are_fields n zs p.0 p.1)
value_is form.NumberAndFlag ds = flagged_fits ds
value_is form.Sides ds = map_keeps (option_and_then (if_many 4) (option_and_then (all_in whole_in) (array_only ds))) reply.Numbers (λ zs. (length zs ≡ 4) × AreWhole zs) (ReplyFits form.Sides)
    (and_then_keeps (option_and_then (all_in whole_in) (array_only ds)) (if_many 4) AreWhole _ (array_keeps ds (all_in whole_in) AreWhole wholes_fit) (λ zs p. many_fit 4 zs p)) (λ zs p. are_sides zs p.0 p.1)
value_is form.Ids ds = map_keeps (option_and_then (all_in whole_in) (array_only ds)) reply.Numbers AreWhole (ReplyFits form.Ids) (array_keeps ds (all_in whole_in) AreWhole wholes_fit) (λ zs p. are_ids zs p)
value_is form.Units ds = map_keeps (option_and_then units_in (only ds)) reply.Units AreUnits (ReplyFits form.Units) (only_keeps ds units_in AreUnits text_fits) (λ us p. are_units us p)
value_is form.Records ds = map_keeps (option_and_then records_in (only ds)) reply.Records RecordsFit (ReplyFits form.Records) (only_keeps ds records_in RecordsFit records_fit) (λ rs p. are_records rs p)
value_is form.Cells ds = cells_fit ds
value_is form.Lines ds = map_keeps (option_and_then (all_in units_in) (array_only ds)) reply.Lines AreTexts (ReplyFits form.Lines) (array_keeps ds (all_in units_in) AreTexts texts_fit) (λ ls p. are_lines ls p)
value_is form.Wait ds = only_keeps ds wait_in (ReplyFits form.Wait) wait_fits
value_is form.Control ds = tt

control_is : (f : Form) (ds : Items) → IfSome (control_in f ds) (ReplyFits f)
control_is form.Control ds = map_keeps (option_and_then number_in (only ds)) reply.Ctrl (λ n. n < 4294967296) (ReplyFits form.Control) (only_keeps ds number_in (λ n. n < 4294967296) (λ d. below_fits 4294967296 d)) (λ n p. is_control n p)
control_is other ds = tt

fail_is : (f : Form) (ds : Items) → IfSome (fail_in ds) (ReplyFits f)
fail_is f ds = map_keeps (option_and_then code_of (option_and_then number_in (only ds))) reply.Fail (λ _. Unit {0}) (ReplyFits f) (any (option_and_then code_of (option_and_then number_in (only ds)))) (λ c p. refused f c)

named_is : (f : Form) (name : List ℕ) (ds : Items) → IfSome (answer_named f name ds) (ReplyFits f)
named_is f name ds = cond_both (bytes_eq name (codes "ok")) (value_in f ds) _ (λ o. IfSome o (ReplyFits f)) (λ h. value_is f ds)
    (λ h. cond_both (bytes_eq name (codes "fail")) (fail_in ds) _ (λ o. IfSome o (ReplyFits f)) (λ h. fail_is f ds)
    (λ h. cond_both (bytes_eq name (codes "ctrl")) (control_in f ds) None (λ o. IfSome o (ReplyFits f)) (λ h. control_is f ds) (λ h. tt)))

items_are : (f : Form) (ds : Items) → IfSome (answer_items f ds) (ReplyFits f)
items_are f no_items = tt
items_are f (item name ds) = and_then_keeps (as_str name) _ (λ _. Unit {0}) (ReplyFits f) (any (as_str name)) (λ s p. named_is f s ds)

reply_is : (f : Form) (d : Data) → IfSome (reply_in f d) (ReplyFits f)
reply_is f d = and_then_keeps (as_array d) (answer_items f) (λ _. Unit {0}) (ReplyFits f) (any (as_array d)) (λ ds p. items_are f ds)

-- ---- events

abbrev Own : Actor → Event → Type 0
Own a e = IsOwn a e × EventFits e

none_is : (Q : Event → Type 0) (e : Event) (ds : Items) → Q e → IfSome (none_in e ds) Q
none_is Q e ds q = cond_both (is_bare ds) (Some e) None (λ o. IfSome o Q) (λ h. q) (λ h. tt)

pair_fits : {A : Type 0} (P : A → Type 0) (o p : Option A) → IfSome o P → IfSome p P → IfSome (pair o p) (λ q. P q.0 × P q.1)
pair_fits P o p a b = and_then_keeps o _ P _ a (λ x xp. map_keeps p _ P _ b (λ y yp. (xp, yp)))

numbers_fit : (ds : Items) → IfSome (number_pair_in ds) (λ p. (p.0 < 4294967296) × (p.1 < 4294967296))
numbers_fit no_items = tt
numbers_fit (item a no_items) = tt
numbers_fit (item a (item b no_items)) = pair_fits (λ n. n < 4294967296) (number_in a) (number_in b) (below_fits 4294967296 a) (below_fits 4294967296 b)
numbers_fit (item a (item b (item more ds))) = tt

pair_of_units : (ds : Items) → IfSome (unit_pair_in ds) (λ p. (p.0 < 65536) × (p.1 < 65536))
pair_of_units no_items = tt
pair_of_units (item a no_items) = tt
pair_of_units (item a (item b no_items)) = pair_fits (λ n. n < 65536) (unit_in a) (unit_in b) (below_fits 65536 a) (below_fits 65536 b)
pair_of_units (item a (item b (item more ds))) = tt

abbrev OfClient : Event → Type 0
OfClient e = IsTrue (is_clients e) × EventFits e

read_with_fits : (ds : Items) → IfSome (read_with_in ds) OfClient
read_with_fits no_items = tt
read_with_fits (item h no_items) = tt
read_with_fits (item h (item n no_items)) = tt
read_with_fits (item h (item n (item us no_items))) = tt
read_with_fits (item h (item n (item us (item m no_items)))) =
    and_then_keeps (number_in h) _ (λ n. n < 4294967296) OfClient (below_fits 4294967296 h) (λ h hp.
    and_then_keeps (number_in n) _ (λ n. n < 4294967296) OfClient (below_fits 4294967296 n) (λ n np.
    and_then_keeps (number_in m) _ (λ n. n < 4294967296) OfClient (below_fits 4294967296 m) (λ m mp.
    map_keeps (units_in us) _ AreUnits OfClient (text_fits us) (λ us up. (refl, (hp, (np, (up, (mp, tt)))))))))
read_with_fits (item h (item n (item us (item m (item more ds))))) = tt

call_is : (name : List ℕ) (ds : Items) → IfSome (call_in name ds) OfClient
call_is name ds = map_keeps _ event.Call _ OfClient (call_fits name (as_told ds) (all_told_fit ds)) (λ c p. (refl, p))

client_is : (name : List ℕ) (ds : Items) → IfSome (of_client name ds) OfClient
unfolding of_client
client_is name ds =
    cond_both (bytes_eq name (codes "begin-read")) _ _ (λ o. IfSome o OfClient) (λ h. map_keeps (number_pair_in ds) _ (λ p. (p.0 < 4294967296) × (p.1 < 4294967296)) OfClient (numbers_fit ds) (λ p q. (refl, (q.0, (q.1, tt)))))
    (λ h. cond_both (bytes_eq name (codes "begin-read-input")) _ _ (λ o. IfSome o OfClient) (λ h. map_keeps (number_pair_in ds) _ (λ p. (p.0 < 4294967296) × (p.1 < 4294967296)) OfClient (numbers_fit ds) (λ p q. (refl, (q.0, (q.1, tt)))))
    (λ h. cond_both (bytes_eq name (codes "begin-read-with")) _ _ (λ o. IfSome o OfClient) (λ h. read_with_fits ds)
    (λ h. cond_both (bytes_eq name (codes "collect")) _ _ (λ o. IfSome o OfClient) (λ h. none_is OfClient event.Collect ds (refl, tt))
    (λ h. cond_both (bytes_eq name (codes "take-ctrl")) _ _ (λ o. IfSome o OfClient) (λ h. none_is OfClient event.TakeCtrl ds (refl, tt))
    (λ h. cond_both (bytes_eq name (codes "exit")) _ _ (λ o. IfSome o OfClient)
    (λ h. map_keeps (option_and_then number_in (only ds)) event.Exit (λ n. n < 4294967296) OfClient (only_keeps ds number_in (λ n. n < 4294967296) (λ d. below_fits 4294967296 d)) (λ n p. (refl, (p, tt))))
    (λ h. call_is name ds))))))

feed_fits : (d : Data) → IfSome (feed_in d) (Own actor.Terminal)
feed_fits d = map_keeps (option_and_then unhex_bytes (as_str d)) event.Feed AreBytes (Own actor.Terminal) (and_then_keeps (as_str d) unhex_bytes (λ _. Unit {0}) AreBytes (any (as_str d)) (λ s p. bytes_fit s)) (λ bs p. (refl, p))

terminal_is : (name : List ℕ) (ds : Items) → IfSome (of_terminal name ds) (Own actor.Terminal)
unfolding of_terminal
terminal_is name ds =
    cond_both (bytes_eq name (codes "feed")) _ _ (λ o. IfSome o (Own actor.Terminal)) (λ h. only_keeps ds feed_in (Own actor.Terminal) feed_fits)
    (λ h. cond_both (bytes_eq name (codes "quiet")) _ _ (λ o. IfSome o (Own actor.Terminal)) (λ h. none_is (Own actor.Terminal) event.Quiet ds (refl, tt))
    (λ h. cond_both (bytes_eq name (codes "resize")) _ _ (λ o. IfSome o (Own actor.Terminal)) (λ h. map_keeps (unit_pair_in ds) _ (λ p. (p.0 < 65536) × (p.1 < 65536)) (Own actor.Terminal) (pair_of_units ds) (λ p q. (refl, (q.0, (q.1, tt)))))
    (λ h. cond_both (bytes_eq name (codes "ask")) _ _ (λ o. IfSome o (Own actor.Terminal)) (λ h. none_is (Own actor.Terminal) event.Ask ds (refl, tt))
    (λ h. cond_both (bytes_eq name (codes "hangup")) _ _ (λ o. IfSome o (Own actor.Terminal)) (λ h. none_is (Own actor.Terminal) event.Hangup ds (refl, tt))
    (λ h. cond_both (bytes_eq name (codes "drained")) _ _ (λ o. IfSome o (Own actor.Terminal)) (λ h. none_is (Own actor.Terminal) event.Drained ds (refl, tt)) (λ h. tt))))))

painter_is : (name : List ℕ) (ds : Items) → IfSome (of_painter name ds) (Own actor.Painter)
unfolding of_painter
painter_is name ds = cond_both (bytes_eq name (codes "paint")) _ _ (λ o. IfSome o (Own actor.Painter)) (λ h. none_is (Own actor.Painter) event.Paint ds (refl, tt)) (λ h. tt)

-- what types and the table keep of an actor
abbrev ActorFits : Actor → Type 0
ActorFits (actor.Client p) = (0 < p) × (p < 256)
ActorFits actor.Terminal = Unit {0}
ActorFits actor.Painter = Unit {0}

client_own : (p : ℕ) (o : Option Event) → ActorFits (actor.Client p) → IfSome o OfClient → IfSome o (Own (actor.Client p))
client_own p None q h = tt
client_own p (Some e) q h = ((q.0, q.1, h.0), h.1)

event_is : (a : Actor) (name : List ℕ) (ds : Items) → ActorFits a → IfSome (event_in a name ds) (Own a)
event_is (actor.Client p) name ds q = client_own p (of_client name ds) q (client_is name ds)
event_is actor.Terminal name ds q = terminal_is name ds
event_is actor.Painter name ds q = painter_is name ds

-- ---- a whole line

digit_below : (n c : ℕ) → IfSome (one_digit n c) (λ m. m < 256)
digit_below n c = cond_both (is_in_range 48 57 c && nat_lt (n * 10 + (c - 48)) 256) (Some (n * 10 + (c - 48))) None (λ o. IfSome o (λ m. m < 256))
    (λ h. let q = (and_parts (is_in_range 48 57 c) (nat_lt (n * 10 + (c - 48)) 256) h).1 in grind (arith, nat_tests)) (λ h. tt)

digits_fit : (n : ℕ) (cs : List ℕ) → n < 256 → IfSome (digits_after n cs) (λ m. m < 256)
digits_fit n [] p = p
digits_fit n (c ∷ cs) p = and_then_keeps (one_digit n c) _ (λ m. m < 256) (λ m. m < 256) (digit_below n c) (λ m q. digits_fit m cs q)

some_number : (n : ℕ) → n < 256 → IfSome (unless_zero n) (λ m. (0 < m) × (m < 256))
some_number n p = cond_both (n == 0) None (Some n) (λ o. IfSome o (λ m. (0 < m) × (m < 256))) (λ h. tt) (λ h. (grind (arith, nat_tests), p))

client_fits : (s : List ℕ) → IfSome (client_in s) (λ m. (0 < m) × (m < 256))
client_fits [] = tt
client_fits (c ∷ ds) = cond_both (c == 99) (option_and_then unless_zero (digits_after 0 ds)) None (λ o. IfSome o (λ m. (0 < m) × (m < 256)))
    (λ h. and_then_keeps (digits_after 0 ds) unless_zero (λ m. m < 256) _ (digits_fit 0 ds (omega arith)) (λ n p. some_number n p)) (λ h. tt)

actor_fits : (s : List ℕ) → IfSome (actor_in s) ActorFits
actor_fits s = cond_both (bytes_eq s (codes "t")) (Some actor.Terminal) _ (λ o. IfSome o ActorFits) (λ h. tt)
    (λ h. cond_both (bytes_eq s (codes "p")) (Some actor.Painter) _ (λ o. IfSome o ActorFits) (λ h. tt)
    (λ h. map_keeps (client_in s) actor.Client (λ m. (0 < m) × (m < 256)) ActorFits (client_fits s) (λ n p. p)))

-- what an event was answered
abbrev Answer : Event → Reply × ℕ → Type 0
Answer e p = AnswerFits e p.0 p.1

painted_fits : (ds : Items) → IfSome (painted_in ds) (Answer event.Paint)
painted_fits no_items = tt
painted_fits (item w no_items) = tt
painted_fits (item w (item n no_items)) = map_keeps (length_in n) _ (λ n. n < 18446744073709551616) (Answer event.Paint) (length_fits n) (λ n p. (refl, p))
painted_fits (item w (item n (item more ds))) = tt

plain_fits : (f : Form) (d : Data) → IfSome (option_map {T = Reply} {U = Reply × ℕ} (λ r. (r, 0)) (reply_in f d)) (λ p. ReplyFits f p.0 × (p.1 ≡ 0))
plain_fits f d = map_keeps {A = Reply} {B = Reply × ℕ} (reply_in f d) (λ r. (r, 0)) (ReplyFits f) (λ p. ReplyFits f p.0 × (p.1 ≡ 0)) (reply_is f d) (λ r p. (p, refl))

answer_is : (e : Event) (d : Data) → IfSome (answer_in e d) (Answer e)
answer_is event.Paint d = and_then_keeps (as_array d) painted_in (λ _. Unit {0}) (Answer event.Paint) (any (as_array d)) (λ ds p. painted_fits ds)
answer_is other d = plain_fits (form_of other) d

by_is : (a : Actor) (name : List ℕ) (ds : Items) (d : Data) → ActorFits a → IfSome (said_by a name ds d) IsLine
by_is a name ds d p = and_then_keeps (event_in a name ds) _ (Own a) IsLine (event_is a name ds p)
    (λ e q. map_keeps (answer_in e d) _ (Answer e) IsLine (answer_is e d) (λ r s. record { own = q.0; event = q.1; answer = s }))

four_is : (ds : Items) → IfSome (said_items ds) IsLine
four_is no_items = tt
four_is (item a no_items) = tt
four_is (item a (item n no_items)) = tt
four_is (item a (item n (item args no_items))) = tt
four_is (item a (item n (item args (item d no_items)))) =
    and_then_keeps (option_and_then actor_in (as_str a)) _ ActorFits IsLine (and_then_keeps (as_str a) actor_in (λ _. Unit {0}) ActorFits (any (as_str a)) (λ s p. actor_fits s)) (λ a actor_fit.
    and_then_keeps (as_str n) _ (λ _. Unit {0}) IsLine (any (as_str n)) (λ n q.
    and_then_keeps (as_array args) _ (λ _. Unit {0}) IsLine (any (as_array args)) (λ args r. by_is a n args d actor_fit)))
four_is (item a (item n (item args (item d (item more ds))))) = tt

said_some : (d : Data) → IfSome (said_in d) IsLine
said_some d = and_then_keeps (as_array d) said_items (λ _. Unit {0}) IsLine (any (as_array d)) (λ ds p. four_is ds)

-- what a line tells is a line
pub told_is_line : (d : Data) (s : Said) → said_in d ≡ Some s → IsLine s
told_is_line d s e = subst (λ o. IfSome o IsLine) e (said_some d)

-- What is shown is told again.
use Rattle.std.proofs.Common.{◌≡◌, refl, ap, arith, ℕ, ◌+◌, ◌<◌, ◌≤◌, ◌/◌, ◌%◌, List, [], ◌∷◌, map, Some, None, true, false, nat_lt, nat_le}
use Rattle.std.specs.Prelude.{ℤ, pos, negsuc}
use Rattle.std.specs.Int.{is_in_range}
use Rattle.std.specs.Char.{digit_char}
use Rattle.std.proofs.lemmas.Bool.{cond_both}
use Rattle.std.proofs.lemmas.Bool.Decides.{nat_tests}
use Rattle.con_units.specs.declared.place.Rect.{Rect}
use Rattle.con_records.specs.declared.record.Record.{Record}
use Rattle.con_records.specs.declared.record.Record.TheVariants as record_of
use Rattle.con_events.specs.declared.call.Call.{Call}
use Rattle.con_events.specs.declared.call.Words.TheVariants.{One, Each}
use Rattle.con_events.specs.Arg.{Arg, Number, Signed, OneUnit, Flag, Text, Area, Clip, WordsOf, WordList, Records}
use Rattle.con_events.specs.Words.Arg.{kind_of}
use Rattle.con_events.specs.Words.Table.{name_of, args_of}
use Rattle.con_events.specs.RecordTable.{row_of_record}
use Rattle.con_events.specs.Reading.{call_from}
use Rattle.con_events.specs.Fits.{AreUnits, RectFits, RecordFits, ArgFits}
use Rattle.con_events.specs.Words.Fits.{IsSmall, RecordsFit, ArgsFit}
use Rattle.con_events.specs.TableLaws.{AllRead, call_back}
use Rattle.con_values.specs.Values.{signed_in, rect_in, record_in, records_items}
use Rattle.con_lines.specs.Hex.{hex_units, hex_bytes}
use Rattle.con_lines.specs.Shown.{whole, rect_data, record_data, shown}
use Rattle.con_lines.specs.Words.Shown.{items}
use Rattle.con_lines.specs.Words.Fits.{AreBytes}
use Rattle.con_lines.specs.Told.{hex_value, byte_told, unit_told, unhex_units, unhex_bytes, told}

pub is_below : (n m : ℕ) → n < m → nat_lt n m ≡ true
is_below n m h = grind (arith, nat_tests)

pub is_most : (n m : ℕ) → n ≤ m → nat_le n m ≡ true
is_most n m h = grind (arith, nat_tests)

-- ---- digits

low : (d : ℕ) → d < 10 → hex_value (48 + d) ≡ Some d
low d h =
    let here : is_in_range 48 57 (48 + d) ≡ true = grind (arith, nat_tests) in
    rw here (ap Some (omega arith))

high : (d : ℕ) → 10 ≤ d → d < 16 → hex_value (87 + d) ≡ Some d
high d g h =
    let not_here : is_in_range 48 57 (87 + d) ≡ false = grind (arith, nat_tests) in
    let here : is_in_range 97 102 (87 + d) ≡ true = grind (arith, nat_tests) in
    rw (not_here, here) (ap Some (omega arith))

digit_back : (d : ℕ) → d < 16 → hex_value (digit_char d) ≡ Some d
digit_back d small = cond_both (nat_lt d 10) (48 + d) (87 + d) (λ c. hex_value c ≡ Some d) (λ h. low d (grind (arith, nat_tests))) (λ h. high d (grind (arith, nat_tests)) small)

byte_back : (b : ℕ) → b < 256 → byte_told (digit_char (b / 16)) (digit_char (b % 16)) ≡ Some b
unfolding byte_told
byte_back b small = rw (digit_back (b / 16) (omega arith), digit_back (b % 16) (omega arith)) (ap Some (omega arith))

unit_back : (u : ℕ) → u < 65536 → unit_told (digit_char (u / 4096)) (digit_char (u / 256 % 16)) (digit_char (u / 16 % 16)) (digit_char (u % 16)) ≡ Some u
unfolding unit_told
unit_back u small = rw (digit_back (u / 4096) (omega arith), digit_back (u / 256 % 16) (omega arith), digit_back (u / 16 % 16) (omega arith), digit_back (u % 16) (omega arith)) (ap Some (omega arith))

pub units_back : (us : List ℕ) → AreUnits us → unhex_units (hex_units us) ≡ Some us
units_back [] p = refl
units_back (u ∷ us) p = rw (unit_back u p.0, units_back us p.1) refl

pub bytes_back : (bs : List ℕ) → AreBytes bs → unhex_bytes (hex_bytes bs) ≡ Some bs
bytes_back [] p = refl
bytes_back (b ∷ bs) p = rw (byte_back b p.0, bytes_back bs p.1) refl

-- ---- values

small_back : (z : ℤ) → IsSmall z → signed_in (whole z) ≡ Some z
small_back (pos n) p = rw (is_below n 9223372036854775808 (omega (arith, p)), is_most n 32767 (omega (arith, p))) refl
small_back (negsuc n) p = rw (is_most n 32767 (omega (arith, p))) refl

pub rect_back : (r : Rect) → RectFits r → rect_in (rect_data r) ≡ Some r
rect_back r p = rw (small_back r.left p.0, small_back r.top p.1, small_back r.right p.2, small_back r.bottom p.3) refl

record_back : (r : Record) → RecordFits r → record_in (record_data r) ≡ Some r
unfolding row_of_record
record_back (record_of.Key k) p = rw (is_below k.repeat 65536 p.0, is_below k.vk 65536 p.1, is_below k.scan 65536 p.2, is_below k.unit 65536 p.3, is_below k.state 4294967296 p.4) refl
record_back (record_of.Mouse m) p = rw (small_back m.x p.0, small_back m.y p.1, is_below m.buttons 4294967296 p.2, is_below m.state 4294967296 p.3, is_below m.flags 4294967296 p.4) refl
record_back (record_of.Size s) p = rw (is_below s.w 65536 p.0, is_below s.h 65536 p.1) refl
record_back (record_of.Menu n) p = rw (is_below n 4294967296 p) refl
record_back (record_of.Focus b) p = refl

pub records_back : (rs : List Record) → RecordsFit rs → records_items (items (map record_data rs)) ≡ Some rs
records_back [] p = refl
records_back (r ∷ rs) p = rw (record_back r p.0, records_back rs p.1) refl

-- ---- arguments

arg_back : (a : Arg) → ArgFits a → told (shown a) (kind_of a) ≡ Some a
arg_back (Number n) p = rw (is_below n 4294967296 p) refl
arg_back (Signed z) p = rw (small_back z p) refl
arg_back (OneUnit u) p = rw (is_below u 65536 p) refl
arg_back (Flag b) p = refl
arg_back (Text us) p = rw (units_back us p) refl
arg_back (Area r) p = rw (rect_back r p) refl
arg_back (Clip None) p = refl
arg_back (Clip (Some r)) p = rw (rect_back r p) refl
arg_back (WordsOf (One w)) p = rw (is_below w 65536 p) refl
arg_back (WordsOf (Each ws)) p = rw (units_back ws p) refl
arg_back (WordList ws) p = rw (units_back ws p) refl
arg_back (Records rs) p = rw (records_back rs p) refl

args_read : (xs : List Arg) → ArgsFit xs → AllRead (λ a. told (shown a)) xs
args_read [] p = tt
args_read (a ∷ xs) p = (arg_back a p.0, args_read xs p.1)

-- a call of a line
pub told_back : (c : Call) → ArgsFit (args_of c) → call_from (name_of c) (map (λ a. told (shown a)) (args_of c)) ≡ Some (c, [])
told_back c p = call_back (λ a. told (shown a)) c (args_read (args_of c) p)

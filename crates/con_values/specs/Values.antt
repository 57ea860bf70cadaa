-- What a JSON value is as a number, a rectangle, a record.
use Rattle.std.specs.Prelude.{ℕ, ℤ, pos, negsuc, int_le, nat_lt, ◌&&◌, List, [], ◌∷◌, if◌then◌else◌, Option, Some, None, option_map, option_and_then}
use Rattle.con_units.specs.declared.place.Rect.{Rect}
use Rattle.con_records.specs.declared.record.Record.{Record}
use Rattle.con_events.specs.Words.Arg as arg
use Rattle.con_events.specs.Arg.{Number, Signed, OneUnit, Flag}
use Rattle.con_events.specs.Reading.{Item, row_from, whole}
use Rattle.con_events.specs.RecordTable.{row_of_record}
use Rattle.serde_json.specs.Data.{Data, null, boolean, number, string, array, object, Items, no_items, item}
use Rattle.serde_json.specs.Find.{as_number, as_u64, as_i64, as_bool, as_str, as_array}

-- a whole number, if it is less than a bound
abbrev pub below : ℕ → Data → Option ℕ
below bound d = option_and_then (λ n. if nat_lt n bound then Some n else None) (option_and_then as_u64 (as_number d))

-- 0 to 4,294,967,295
abbrev pub number_in : Data → Option ℕ
number_in d = below 4294967296 d

-- 0 to 65,535
abbrev pub unit_in : Data → Option ℕ
unit_in d = below 65536 d

-- -32,768 to 32,767
abbrev pub signed_in : Data → Option ℤ
signed_in d = option_and_then (λ z. if int_le (negsuc 32767) z && int_le z (pos 32767) then Some z else None) (option_and_then as_i64 (as_number d))

abbrev pub four : Option ℤ → Option ℤ → Option ℤ → Option ℤ → Option Rect
four l t r b =
    option_and_then (λ left. option_and_then (λ top. option_and_then (λ right.
    option_map (λ bottom. record { left = left; top = top; right = right; bottom = bottom }) b) r) t) l

-- left, top, right, bottom
abbrev pub rect_items : Items → Option Rect
rect_items no_items = None
rect_items (item l no_items) = None
rect_items (item l (item t no_items)) = None
rect_items (item l (item t (item r no_items))) = None
rect_items (item l (item t (item r (item b no_items)))) = four (signed_in l) (signed_in t) (signed_in r) (signed_in b)
rect_items (item l (item t (item r (item b (item more ds))))) = None

abbrev pub rect_in : Data → Option Rect
rect_in d = option_and_then rect_items (as_array d)

-- a rectangle, or null for none
abbrev pub clip_in : Data → Option (Option Rect)
clip_in null = Some None
clip_in (boolean b) = None
clip_in (number n) = None
clip_in (string s) = None
clip_in (array ds) = option_map Some (rect_items ds)
clip_in (object ms) = None

-- ---- records

-- a field of a record
abbrev pub field : Data → Item
field d arg.number = option_map Number (number_in d)
field d arg.signed = option_map Signed (signed_in d)
field d arg.unit = option_map OneUnit (unit_in d)
field d arg.flag = option_map Flag (as_bool d)
field d arg.text = None
field d arg.rect = None
field d arg.clip = None
field d arg.words = None
field d arg.list = None
field d arg.records = None

abbrev pub fields : Items → List Item
fields no_items = []
fields (item d ds) = field d ∷ fields ds

-- a name, and that record's fields
abbrev pub record_items : Items → Option Record
record_items no_items = None
record_items (item name ds) = option_and_then (λ n. whole (row_from (row_of_record n) (fields ds))) (as_str name)

abbrev pub record_in : Data → Option Record
record_in d = option_and_then record_items (as_array d)

abbrev pub records_items : Items → Option (List Record)
records_items no_items = Some []
records_items (item d ds) = option_and_then (λ r. option_map (λ rs. r ∷ rs) (records_items ds)) (record_in d)

abbrev pub records_in : Data → Option (List Record)
records_in d = option_and_then records_items (as_array d)

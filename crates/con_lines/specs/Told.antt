-- What a line's JSON tells: the way back from what is shown.
use Rattle.std.specs.Prelude.{ℕ, ◌*◌, ◌+◌, ◌-◌, ◌==◌, ℤ, pos, negsuc, int_le, nat_lt, ◌&&◌, ◌||◌, Bool, true, false, if◌then◌else◌}
use Rattle.std.specs.Prelude.{List, [], ◌∷◌, length, codes, Option, Some, None, option_map, option_and_then}
use Rattle.std.specs.Int.{is_in_range}
use Rattle.std.specs.Str.{bytes_eq}
use Rattle.con_units.specs.Attr.{plain}
use Rattle.con_units.specs.Glyph.{Glyph, cell_of}
use Rattle.con_units.specs.declared.code.Code.{Code}
use Rattle.con_units.specs.declared.code.Code.TheVariants as code
use Rattle.con_units.specs.declared.view.FrameFault.{FrameFault}
use Rattle.con_units.specs.declared.view.FrameFault.TheVariants as fault
use Rattle.con_events.specs.declared.actor.Actor.{Actor}
use Rattle.con_events.specs.declared.actor.Actor.TheVariants as actor
use Rattle.con_events.specs.declared.call.Words.{Words}
use Rattle.con_events.specs.declared.call.Words.TheVariants.{One, Each}
use Rattle.con_events.specs.declared.event.Event.{Event}
use Rattle.con_events.specs.declared.event.Event.TheVariants as event
use Rattle.con_events.specs.declared.event.Wanted.TheVariants.{Read, ReadInput, ReadWith}
use Rattle.con_events.specs.declared.reply.Reply.{Reply}
use Rattle.con_events.specs.declared.reply.Reply.TheVariants as reply
use Rattle.con_events.specs.Words.Arg as arg
use Rattle.con_events.specs.Arg.{Arg, Number, Signed, OneUnit, Flag, Text, Area, Clip, WordsOf, WordList, Records}
use Rattle.con_events.specs.Words.Arg.{Kind}
use Rattle.con_events.specs.Reading.{Item, call_from, whole as whole_from}
use Rattle.con_values.specs.Values.{number_in, unit_in, signed_in, rect_in, clip_in, records_in}
use Rattle.serde_json.specs.Data.{Data, string, Items, no_items, item}
use Rattle.serde_json.specs.Find.{as_number, as_u64, as_i64, as_bool, as_str, as_array}
use Rattle.con_events.specs.declared.form.Form.{Form}
use Rattle.con_events.specs.declared.form.Form.TheVariants as form
use Rattle.con_lines.specs.declared.said.Said.{Said}
use Rattle.con_lines.specs.Ending.{Ending, alone, worded, at_frame}
use Rattle.con_lines.specs.Form.{form_of}

-- ---- digits

abbrev pub hex_value : ℕ → Option ℕ
hex_value c = if is_in_range 48 57 c then Some (c - 48) else if is_in_range 97 102 c then Some (c - 87) else None

-- a digit behind others
abbrev pub with_digit : Option ℕ → ℕ → Option ℕ
with_digit high c = option_and_then (λ n. option_map (λ d. n * 16 + d) (hex_value c)) high

abbrev pub with_first : {A : Type 0} → Option A → Option (List A) → Option (List A)
with_first first rest = option_and_then (λ x. option_map (λ xs. x ∷ xs) rest) first

-- the byte of two digits, and the unit of four
unfoldable pub byte_told : ℕ → ℕ → Option ℕ
byte_told a b = with_digit (hex_value a) b

unfoldable pub unit_told : ℕ → ℕ → ℕ → ℕ → Option ℕ
unit_told a b c d = with_digit (with_digit (with_digit (hex_value a) b) c) d

abbrev pub unhex_units : List ℕ → Option (List ℕ)
unhex_units [] = Some []
unhex_units (a ∷ []) = None
unhex_units (a ∷ b ∷ []) = None
unhex_units (a ∷ b ∷ c ∷ []) = None
unhex_units (a ∷ b ∷ c ∷ d ∷ rest) = with_first (unit_told a b c d) (unhex_units rest)

abbrev pub unhex_bytes : List ℕ → Option (List ℕ)
unhex_bytes [] = Some []
unhex_bytes (a ∷ []) = None
unhex_bytes (a ∷ b ∷ rest) = with_first (byte_told a b) (unhex_bytes rest)

-- ---- single values

-- a number of 64 bits, with its sign and without
abbrev pub kept_whole : ℤ → Option ℤ
kept_whole z = if int_le (negsuc 9223372036854775807) z && int_le z (pos 9223372036854775807) then Some z else None

abbrev pub kept_length : ℕ → Option ℕ
kept_length n = if nat_lt n 18446744073709551616 then Some n else None

abbrev pub whole_in : Data → Option ℤ
whole_in d = option_and_then kept_whole (option_and_then as_i64 (as_number d))

abbrev pub length_in : Data → Option ℕ
length_in d = option_and_then kept_length (option_and_then as_u64 (as_number d))

abbrev pub units_in : Data → Option (List ℕ)
units_in d = option_and_then unhex_units (as_str d)

abbrev pub all_in : {A : Type 0} → (Data → Option A) → Items → Option (List A)
all_in f no_items = Some []
all_in f (item d ds) = with_first (f d) (all_in f ds)

-- ---- arguments

abbrev pub words_in : Data → Option Words
words_in (string s) = option_map Each (unhex_units s)
words_in other = option_map One (unit_in other)

-- what stands at a place, as an argument of a kind
abbrev pub told : Data → Kind → Option Arg
told d arg.number = option_map Number (number_in d)
told d arg.signed = option_map Signed (signed_in d)
told d arg.unit = option_map OneUnit (unit_in d)
told d arg.flag = option_map Flag (as_bool d)
told d arg.text = option_map Text (units_in d)
told d arg.rect = option_map Area (rect_in d)
told d arg.clip = option_map Clip (clip_in d)
told d arg.words = option_map WordsOf (words_in d)
told d arg.list = option_map WordList (units_in d)
told d arg.records = option_map Records (records_in d)

abbrev pub as_told : Items → List Item
as_told no_items = []
as_told (item d ds) = told d ∷ as_told ds

-- ---- answers

abbrev pub code_of : ℕ → Option Code
code_of n =
    if n == 5 then Some code.Denied else if n == 6 then Some code.BadHandle else if n == 31 then Some code.NoAlias else
    if n == 87 then Some code.BadArgument else if n == 109 then Some code.Closed else if n == 995 then Some code.Aborted else
    if n == 1816 then Some code.Limit else None

-- the one value that there is
abbrev pub only : Items → Option Data
only no_items = None
only (item d no_items) = Some d
only (item d (item e ds)) = None

-- nothing stands there
abbrev pub is_bare : Items → Bool
is_bare no_items = true
is_bare (item d ds) = false

-- as many as there are to be
abbrev pub if_many : ℕ → List ℤ → Option (List ℤ)
if_many n zs = if length zs == n then Some zs else None

abbrev pub flag_of : Bool → ℤ
flag_of b = if b then pos 1 else pos 0

abbrev pub flagged_in : Data → Data → Option (List ℤ)
flagged_in d b = option_and_then (λ z. option_map (λ b. z ∷ flag_of b ∷ []) (as_bool b)) (whole_in d)

abbrev pub number_and_flag_in : Items → Option (List ℤ)
number_and_flag_in (item d (item b no_items)) = flagged_in d b
number_and_flag_in other = None

abbrev pub array_only : Items → Option Items
array_only ds = option_and_then as_array (only ds)

abbrev pub cells_from : List ℕ → Option (List Glyph)
cells_from [] = Some []
cells_from (u ∷ []) = None
cells_from (u ∷ w ∷ us) = with_first (Some (cell_of u (plain w))) (cells_from us)

abbrev pub cells_in : Items → Option Reply
cells_in (item r (item gs no_items)) = option_and_then (λ r. option_map (λ gs. reply.Cells r gs) (option_and_then cells_from (units_in gs))) (rect_in r)
cells_in other = None

-- a text, or an array of records
abbrev pub wait_in : Data → Option Reply
wait_in (string s) = option_map reply.Units (unhex_units s)
wait_in other = option_map reply.Records (records_in other)

abbrev pub value_in : Form → Items → Option Reply
value_in form.Nothing ds = if is_bare ds then Some reply.Done else None
value_in form.Number ds = option_map reply.Number (option_and_then number_in (only ds))
value_in (form.Fields n) ds = option_map reply.Numbers (option_and_then (if_many n) (all_in whole_in ds))
value_in form.NumberAndFlag ds = option_map reply.Numbers (number_and_flag_in ds)
value_in form.Sides ds = option_map reply.Numbers (option_and_then (if_many 4) (option_and_then (all_in whole_in) (array_only ds)))
value_in form.Ids ds = option_map reply.Numbers (option_and_then (all_in whole_in) (array_only ds))
value_in form.Units ds = option_map reply.Units (option_and_then units_in (only ds))
value_in form.Records ds = option_map reply.Records (option_and_then records_in (only ds))
value_in form.Cells ds = cells_in ds
value_in form.Lines ds = option_map reply.Lines (option_and_then (all_in units_in) (array_only ds))
value_in form.Wait ds = option_and_then wait_in (only ds)
value_in form.Control ds = None

abbrev pub control_in : Form → Items → Option Reply
control_in form.Control ds = option_map reply.Ctrl (option_and_then number_in (only ds))
control_in other ds = None

abbrev pub fail_in : Items → Option Reply
fail_in ds = option_map reply.Fail (option_and_then code_of (option_and_then number_in (only ds)))

abbrev pub answer_named : Form → List ℕ → Items → Option Reply
answer_named f name ds =
    if bytes_eq name (codes "ok") then value_in f ds else
    if bytes_eq name (codes "fail") then fail_in ds else
    if bytes_eq name (codes "ctrl") then control_in f ds else None

abbrev pub answer_items : Form → Items → Option Reply
answer_items f no_items = None
answer_items f (item name ds) = option_and_then (λ s. answer_named f s ds) (as_str name)

abbrev pub reply_in : Form → Data → Option Reply
reply_in f d = option_and_then (answer_items f) (as_array d)

-- ---- events

abbrev pub pair : {A : Type 0} → Option A → Option A → Option (A × A)
pair first last = option_and_then (λ a. option_map (λ b. (a, b)) last) first

abbrev pub number_pair_in : Items → Option (ℕ × ℕ)
number_pair_in (item a (item b no_items)) = pair (number_in a) (number_in b)
number_pair_in other = None

abbrev pub unit_pair_in : Items → Option (ℕ × ℕ)
unit_pair_in (item a (item b no_items)) = pair (unit_in a) (unit_in b)
unit_pair_in other = None

abbrev pub read_with_in : Items → Option Event
read_with_in (item h (item n (item us (item m no_items)))) =
    option_and_then (λ h. option_and_then (λ n. option_and_then (λ m.
    option_map (λ us. event.Begin (ReadWith h n us m)) (units_in us)) (number_in m)) (number_in n)) (number_in h)
read_with_in other = None

abbrev pub none_in : Event → Items → Option Event
none_in e ds = if is_bare ds then Some e else None

abbrev pub feed_in : Data → Option Event
feed_in d = option_map event.Feed (option_and_then unhex_bytes (as_str d))

abbrev pub exit_in : Items → Option Event
exit_in ds = option_map event.Exit (option_and_then number_in (only ds))

abbrev pub call_in : List ℕ → Items → Option Event
call_in name ds = option_map event.Call (whole_from (call_from name (as_told ds)))

-- by the name, with what stands in the array of arguments
unfoldable pub of_terminal : List ℕ → Items → Option Event
of_terminal name ds =
    if bytes_eq name (codes "feed") then option_and_then feed_in (only ds) else
    if bytes_eq name (codes "quiet") then none_in event.Quiet ds else
    if bytes_eq name (codes "resize") then option_map (λ p. event.Resize (record { w = p.0; h = p.1 })) (unit_pair_in ds) else
    if bytes_eq name (codes "ask") then none_in event.Ask ds else
    if bytes_eq name (codes "hangup") then none_in event.Hangup ds else
    if bytes_eq name (codes "drained") then none_in event.Drained ds else None

unfoldable pub of_client : List ℕ → Items → Option Event
of_client name ds =
    if bytes_eq name (codes "begin-read") then option_map (λ p. event.Begin (Read p.0 p.1)) (number_pair_in ds) else
    if bytes_eq name (codes "begin-read-input") then option_map (λ p. event.Begin (ReadInput p.0 p.1)) (number_pair_in ds) else
    if bytes_eq name (codes "begin-read-with") then read_with_in ds else
    if bytes_eq name (codes "collect") then none_in event.Collect ds else
    if bytes_eq name (codes "take-ctrl") then none_in event.TakeCtrl ds else
    if bytes_eq name (codes "exit") then exit_in ds else call_in name ds

unfoldable pub of_painter : List ℕ → Items → Option Event
of_painter name ds = if bytes_eq name (codes "paint") then none_in event.Paint ds else None

-- each actor has its own events
abbrev pub event_in : Actor → List ℕ → Items → Option Event
event_in (actor.Client p) name ds = of_client name ds
event_in actor.Terminal name ds = of_terminal name ds
event_in actor.Painter name ds = of_painter name ds

-- ---- a whole line

-- a number with one digit more, below 256
abbrev pub one_digit : ℕ → ℕ → Option ℕ
one_digit n c = if is_in_range 48 57 c && nat_lt (n * 10 + (c - 48)) 256 then Some (n * 10 + (c - 48)) else None

abbrev pub digits_after : ℕ → List ℕ → Option ℕ
digits_after n [] = Some n
digits_after n (c ∷ cs) = option_and_then (λ m. digits_after m cs) (one_digit n c)

abbrev pub unless_zero : ℕ → Option ℕ
unless_zero n = if n == 0 then None else Some n

-- a number of 1 to 255 behind a `c`
abbrev pub client_in : List ℕ → Option ℕ
client_in [] = None
client_in (c ∷ ds) = if c == 99 then option_and_then unless_zero (digits_after 0 ds) else None

abbrev pub actor_in : List ℕ → Option Actor
actor_in s = if bytes_eq s (codes "t") then Some actor.Terminal
    else if bytes_eq s (codes "p") then Some actor.Painter
    else option_map actor.Client (client_in s)

abbrev pub painted_in : Items → Option (Reply × ℕ)
painted_in (item word (item n no_items)) = option_map (λ end. (reply.Done, end)) (length_in n)
painted_in other = None

abbrev pub answer_in : Event → Data → Option (Reply × ℕ)
answer_in event.Paint d = option_and_then painted_in (as_array d)
answer_in other d = option_map (λ r. (r, 0)) (reply_in (form_of other) d)

abbrev pub answered : Actor → Event → Reply × ℕ → Said
answered a e p = record { entry = record { actor = a; event = e }; reply = p.0; end = p.1 }

abbrev pub said_by : Actor → List ℕ → Items → Data → Option Said
said_by a name args d = option_and_then (λ e. option_map (λ p. answered a e p) (answer_in e d)) (event_in a name args)

abbrev pub said_items : Items → Option Said
said_items (item a (item n (item args (item d no_items)))) =
    option_and_then (λ a. option_and_then (λ n. option_and_then (λ args. said_by a n args d) (as_array args)) (as_str n)) (option_and_then actor_in (as_str a))
said_items other = None

abbrev pub said_in : Data → Option Said
said_in d = option_and_then said_items (as_array d)

-- ---- the last line

abbrev pub kind_in : List ℕ → Option FrameFault
kind_in s =
    if bytes_eq s (codes "tag") then Some fault.Tag else if bytes_eq s (codes "length") then Some fault.Length else
    if bytes_eq s (codes "size") then Some fault.Size else if bytes_eq s (codes "cut") then Some fault.Cut else None

-- statuses that stand alone
abbrev pub alone_in : ℕ → Option Ending
alone_in n = if n == 0 then Some (alone 0) else if n == 9 then Some (alone 9) else None

-- statuses with a text
abbrev pub is_worded : ℕ → List ℕ → Bool
is_worded n text =
    if n == 2 then bytes_eq text (codes "usage") else if n == 3 then true else if n == 4 then bytes_eq text (codes "link") else
    if n == 5 then bytes_eq text (codes "term") else if n == 7 then bytes_eq text (codes "missing") || bytes_eq text (codes "failed") else
    if n == 10 then bytes_eq text (codes "too long") else if n == 12 then bytes_eq text (codes "mirror") else false

abbrev pub worded_in : ℕ → List ℕ → Option Ending
worded_in n text = if is_worded n text then Some (worded n text) else None

abbrev pub ending_items : Items → Option Ending
ending_items (item w (item s no_items)) = option_and_then alone_in (length_in s)
ending_items (item w (item s (item t no_items))) = option_and_then (λ n. option_and_then (worded_in n) (as_str t)) (length_in s)
ending_items (item w (item s (item p (item k no_items)))) =
    option_and_then (λ place. option_map (at_frame place) (option_and_then kind_in (as_str k))) (length_in p)
ending_items other = None

abbrev pub ending_in : Data → Option Ending
ending_in d = option_and_then ending_items (as_array d)

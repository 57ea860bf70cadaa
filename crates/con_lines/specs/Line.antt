-- A line of a report: who did what, and what it was answered.
use Rattle.std.specs.Prelude.{ℕ, ℤ, pos, not, List, [], ◌∷◌, ◌++◌, map, codes, decimal}
use Rattle.std.specs.Ordering.{int_eq}
use Rattle.con_units.specs.Code.{number_of}
use Rattle.con_events.specs.declared.actor.Actor.{Actor}
use Rattle.con_events.specs.declared.actor.Actor.TheVariants as actor
use Rattle.con_events.specs.declared.entry.Entry.{Entry}
use Rattle.con_events.specs.declared.event.Event.{Event}
use Rattle.con_events.specs.declared.event.Event.TheVariants as event
use Rattle.con_events.specs.declared.reply.Reply.{Reply}
use Rattle.con_events.specs.declared.reply.Reply.TheVariants as reply
use Rattle.con_events.specs.declared.form.Form.{Form}
use Rattle.con_events.specs.declared.form.Form.TheVariants.{Fields, NumberAndFlag}
use Rattle.serde_json.specs.Data.{Data, null, boolean, string}
use Rattle.serde_json.specs.Written.{compact_text}
use Rattle.con_lines.specs.Form.{event_spelled, form_of}
use Rattle.con_lines.specs.Hex.{hex_bytes}
use Rattle.con_lines.specs.Shown.{list_of, natural, whole, units_text, rect_data, record_data, shown, cell_words}

-- ---- answers

abbrev pub ok : List Data → Data
ok ds = list_of (string (codes "ok") ∷ ds)

-- the second one tells whether something is so: 0 that it is not
abbrev pub number_and_flag : List ℤ → List Data
number_and_flag (z ∷ b ∷ zs) = whole z ∷ boolean (not (int_eq b (pos 0))) ∷ map whole zs
number_and_flag zs = map whole zs

-- numbers stand one after another, or as an array
abbrev pub numbers_data : Form → List ℤ → Data
numbers_data (Fields n) zs = ok (map whole zs)
numbers_data NumberAndFlag zs = ok (number_and_flag zs)
numbers_data other zs = ok (list_of (map whole zs) ∷ [])

-- what a reply shows for an event of a form; a view is shown by the stream's length alone
abbrev pub reply_data : Form → Reply → Data
reply_data f reply.Done = ok []
reply_data f (reply.Fail c) = list_of (string (codes "fail") ∷ natural (number_of c) ∷ [])
reply_data f (reply.Number n) = ok (natural n ∷ [])
reply_data f (reply.Numbers zs) = numbers_data f zs
reply_data f (reply.Units us) = ok (units_text us ∷ [])
reply_data f (reply.Records rs) = ok (list_of (map record_data rs) ∷ [])
reply_data f (reply.Cells r gs) = ok (rect_data r ∷ units_text (cell_words gs) ∷ [])
reply_data f (reply.Lines ls) = ok (list_of (map units_text ls) ∷ [])
reply_data f (reply.Ctrl n) = list_of (string (codes "ctrl") ∷ natural n ∷ [])
reply_data f (reply.View v m b) = null

-- a picture is answered with the stream's length behind it
abbrev pub answer_data : Event → Reply → ℕ → Data
answer_data event.Paint r end = list_of (string (codes "painted") ∷ natural end ∷ [])
answer_data other r end = reply_data (form_of other) r

-- ---- events

abbrev pub event_data : Event → List Data
event_data (event.Feed bs) = string (hex_bytes bs) ∷ []
event_data e = map shown (event_spelled e).1

-- ---- a whole line

abbrev pub actor_text : Actor → List ℕ
actor_text (actor.Client p) = 99 ∷ decimal p
actor_text actor.Terminal = codes "t"
actor_text actor.Painter = codes "p"

abbrev pub line_data : Entry → Reply → ℕ → Data
line_data e r end = list_of (string (actor_text e.actor) ∷ string (event_spelled e.event).0 ∷ list_of (event_data e.event) ∷ answer_data e.event r end ∷ [])

-- the line's bytes, without the line feed
unfoldable pub line_text : Entry → Reply → ℕ → List ℕ
line_text e r end = compact_text (line_data e r end)

-- a text and its line feed
abbrev pub ended : List ℕ → List ℕ
ended text = text ++ 10 ∷ []

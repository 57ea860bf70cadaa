-- Which lines a report may have.
use Rattle.std.specs.Prelude.{◌≡◌, ℕ, ◌<◌, ℤ, pos, Bool, IsTrue, if◌then◌else◌, List, [], ◌∷◌, length}
use Rattle.std.specs.List.{AllByRecursion}
use Rattle.con_units.specs.Attr.{plain}
use Rattle.con_units.specs.Glyph.{Glyph, cell_of}
use Rattle.con_units.specs.declared.code.Code.{Code}
use Rattle.con_units.specs.declared.place.Rect.{Rect}
use Rattle.con_records.specs.declared.record.Record.{Record}
use Rattle.con_events.specs.Actors.{is_actors, is_clients}
use Rattle.con_events.specs.Fits.{AreUnits, IsSigned, RectFits, RecordFits, ArgFits}
use Rattle.con_events.specs.declared.actor.Actor.{Actor}
use Rattle.con_events.specs.declared.actor.Actor.TheVariants as actor
use Rattle.con_events.specs.declared.event.Event.{Event}
use Rattle.con_events.specs.declared.event.Event.TheVariants as event
use Rattle.con_events.specs.declared.form.Form.{Form}
use Rattle.con_events.specs.declared.form.Form.TheVariants.{Nothing, Number, Fields, NumberAndFlag, Sides, Ids, Units, Records, Cells, Lines, Wait, Control}
use Rattle.con_events.specs.declared.reply.Reply.{Reply}
use Rattle.con_events.specs.declared.reply.Reply.TheVariants as reply
use Rattle.con_lines.specs.declared.said.Said.{Said}
use Rattle.con_lines.specs.Form.{event_spelled, form_of}
use Rattle.con_lines.specs.Shown.{cell_words}

-- clients have the numbers 1 to 255, and each actor has its own events
abbrev pub IsOwn : Actor → Event → Type 0
IsOwn (actor.Client p) e = (0 < p) × (p < 256) × IsTrue (is_clients e)
IsOwn a e = IsTrue (is_actors a e)

-- what the types of an event keep
abbrev pub EventFits : Event → Type 0
EventFits (event.Feed bs) = AllByRecursion (λ b. b < 256) bs
EventFits e = AllByRecursion ArgFits (event_spelled e).1

-- a refusal, or what the form says
pub data ReplyFits : Form → Reply → Type 0 where
  refused : (f : Form) (c : Code) → ReplyFits f (reply.Fail c)
  is_done : ReplyFits Nothing reply.Done
  is_number : (n : ℕ) → n < 4294967296 → ReplyFits Number (reply.Number n)
  are_fields : (n : ℕ) (zs : List ℤ) → length zs ≡ n → AllByRecursion (IsSigned 9223372036854775808) zs → ReplyFits (Fields n) (reply.Numbers zs)
  number_and_flag : (z : ℤ) (b : Bool) → IsSigned 9223372036854775808 z → ReplyFits NumberAndFlag (reply.Numbers (z ∷ (if b then pos 1 else pos 0) ∷ []))
  are_sides : (zs : List ℤ) → length zs ≡ 4 → AllByRecursion (IsSigned 9223372036854775808) zs → ReplyFits Sides (reply.Numbers zs)
  are_ids : (zs : List ℤ) → AllByRecursion (IsSigned 9223372036854775808) zs → ReplyFits Ids (reply.Numbers zs)
  are_units : (us : List ℕ) → AreUnits us → ReplyFits Units (reply.Units us)
  are_records : (rs : List Record) → AllByRecursion RecordFits rs → ReplyFits Records (reply.Records rs)
  are_cells : (r : Rect) (gs : List Glyph) → RectFits r → AreUnits (cell_words gs) → AllByRecursion (λ g. cell_of g.unit (plain g.attr.word) ≡ g) gs → ReplyFits Cells (reply.Cells r gs)
  are_lines : (ls : List (List ℕ)) → AllByRecursion AreUnits ls → ReplyFits Lines (reply.Lines ls)
  waited_units : (us : List ℕ) → AreUnits us → ReplyFits Wait (reply.Units us)
  waited_records : (rs : List Record) → AllByRecursion RecordFits rs → ReplyFits Wait (reply.Records rs)
  is_control : (n : ℕ) → n < 4294967296 → ReplyFits Control (reply.Ctrl n)

-- a picture is answered with done and the stream's length, every other event with a reply of its form and no length
abbrev pub AnswerFits : Event → Reply → ℕ → Type 0
AnswerFits event.Paint r end = (r ≡ reply.Done) × (end < 18446744073709551616)
AnswerFits other r end = ReplyFits (form_of other) r × (end ≡ 0)

-- ---- a whole line

pub record IsLine (s : Said) : Type 0 where
  pub own : IsOwn s.entry.actor s.entry.event
  pub event : EventFits s.entry.event
  pub answer : AnswerFits s.entry.event s.reply s.end

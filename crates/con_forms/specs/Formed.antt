-- The form of what the console answers, by the event: which kind of answer, and how many numbers; not how great they are.
use Rattle.std.specs.Prelude.{◌≡◌, ℕ, ℤ, pos, Bool, if◌then◌else◌, List, [], ◌∷◌, length}
use Rattle.con_units.specs.Glyph.{Glyph}
use Rattle.con_units.specs.declared.code.Code.{Code}
use Rattle.con_units.specs.declared.place.Rect.{Rect}
use Rattle.con_units.specs.declared.shade.Shade.TheVariants.{Plain}
use Rattle.con_records.specs.declared.record.Record.{Record}
use Rattle.con_events.specs.declared.reply.Reply.{Reply}
use Rattle.con_events.specs.declared.reply.Reply.TheVariants as reply
use Rattle.con_events.specs.declared.form.Form.{Form}
use Rattle.con_events.specs.declared.form.Form.TheVariants.{Nothing, Number, Fields, NumberAndFlag, Sides, Ids, Units, Records, Cells, Lines, Wait, Control}

-- cells with plain shades
abbrev pub ArePlain : List Glyph → Type 0
ArePlain [] = Unit {0}
ArePlain (g ∷ gs) = (g.attr.fore ≡ Plain) × (g.attr.back ≡ Plain) × ArePlain gs

-- a refusal, or what the form says
pub data HasForm : Form → Reply → Type 0 where
  refuses : (f : Form) (c : Code) → HasForm f (reply.Fail c)
  is_done : HasForm Nothing reply.Done
  has_number : (n : ℕ) → HasForm Number (reply.Number n)
  has_fields : (n : ℕ) (zs : List ℤ) → length zs ≡ n → HasForm (Fields n) (reply.Numbers zs)
  has_flag : (z : ℤ) (b : Bool) → HasForm NumberAndFlag (reply.Numbers (z ∷ (if b then pos 1 else pos 0) ∷ []))
  has_sides : (zs : List ℤ) → length zs ≡ 4 → HasForm Sides (reply.Numbers zs)
  has_ids : (zs : List ℤ) → HasForm Ids (reply.Numbers zs)
  has_units : (us : List ℕ) → HasForm Units (reply.Units us)
  has_records : (rs : List Record) → HasForm Records (reply.Records rs)
  has_cells : (r : Rect) (gs : List Glyph) → ArePlain gs → HasForm Cells (reply.Cells r gs)
  has_lines : (ls : List (List ℕ)) → HasForm Lines (reply.Lines ls)
  waits_for_units : (us : List ℕ) → HasForm Wait (reply.Units us)
  waits_for_records : (rs : List Record) → HasForm Wait (reply.Records rs)
  has_control : (n : ℕ) → HasForm Control (reply.Ctrl n)

-- a picture
abbrev pub IsPicture : Reply → Type 0
IsPicture (reply.View v marks fresh) = Unit {0}
IsPicture other = ⊥

-- an answer as a report has it: a picture counts as done
abbrev pub reported : Reply → Reply
reported (reply.View v marks fresh) = reply.Done
reported r = r

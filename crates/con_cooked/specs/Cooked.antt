-- A line read: its line after all presses, what each press answers, and how it ends.
use Rattle.std.specs.Prelude.{ℕ, ◌+◌, ◌-◌, Bool, true, false, not, nat_lt, ◌==◌, List, [], ◌∷◌, ◌++◌, Option, Some, None, length, take, drop, fold, min, slice_index_or, unwrap_or, if◌then◌else◌}
use Rattle.std.specs.Option.{option_map_or}
use Rattle.con_units.specs.Units.{is_space, is_other}
use Rattle.con_records.specs.declared.record.Record.{Record}
use Rattle.con_line.specs.Line.{LineText, typed, erased_at, back_while, on_while, recalled_as, completed_by, matched_as}
use Rattle.con_history.specs.Histories.{LineHistories, found, lines_of, added_to}
use Rattle.con_alias.specs.Aliases.{AliasList}
use Rattle.con_alias.specs.Expansion.{expansion, line_end}
use Rattle.con_cooked.specs.Keys.{key_of}
use Rattle.con_cooked.specs.Mask.{is_masked, typed_unit}
use Rattle.con_cooked.specs.declared.keys.LineKey.{LineKey}
use Rattle.con_cooked.specs.declared.keys.LineKey.TheVariants as key

-- the line and the recalled place
pub record Edited : Type 0 where
  pub line : LineText
  pub recalled : Option ℕ

-- a press, and the lines of the program's history at that moment
pub record Moment : Type 0 where
  pub pressed : Record
  pub lines : List (List ℕ)

-- a read: its program, its insert flag and its text at the beginning, the controls that wake it, and its presses
pub record CookedRead : Type 0 where
  pub program : List ℕ
  pub insert : Bool
  pub initial : List ℕ
  pub mask : ℕ
  pub presses : List Moment

-- a recalled place that is not below the number of lines counts as that number
abbrev pub place_in : Option ℕ → List (List ℕ) → ℕ
place_in recalled lines = min (unwrap_or recalled (length lines)) (length lines)

-- one line of the history in place of the text
abbrev pub recall : Edited → List (List ℕ) → ℕ → Edited
recall e lines k = if length lines == 0 then e else record { line = recalled_as e.line (slice_index_or lines k []); recalled = Some k }

-- the line after a key that asks no history, but for escape, of which `key_pressed` tells; return and what is no key leave it as it is
abbrev pub edited_by : LineText → LineKey → LineText
edited_by l (key.Unit u) = typed l u
edited_by l key.Back = if l.caret == 0 then l else erased_at l (l.caret - 1)
edited_by l key.Delete = if nat_lt l.caret (length l.units) then erased_at l l.caret else l
edited_by l key.Left = record l { caret = l.caret - 1 }
edited_by l key.Right = record l { caret = min (l.caret + 1) (length l.units) }
edited_by l key.WordLeft = record l { caret = back_while is_other l.units (back_while is_space l.units l.caret) }
edited_by l key.WordRight = record l { caret = on_while is_space l.units (on_while is_other l.units l.caret) }
edited_by l key.Home = record l { caret = 0 }
edited_by l key.End = record l { caret = length l.units }
edited_by l key.Insert = record l { insert = not l.insert }
edited_by l _ = l

-- the line after a key, where `lines` are those of the program's history: escape empties the text, and no line counts as recalled any more; up brings the line
-- before the recalled one (the oldest staying, and the newest where none was recalled), down one newer (the newest staying, and none where none was recalled),
-- page up the oldest, page down the newest, each nothing where there is no line; then come the rest of the newest behind the caret, which recalls nothing, and
-- the line that a search from before the recalled one finds by the units before the caret, which stays; any other key edits the line alone
abbrev pub key_pressed : Edited → LineKey → List (List ℕ) → Edited
key_pressed e key.Escape lines = record { line = record e.line { units = []; caret = 0 }; recalled = None }
key_pressed e key.Up lines = recall e lines (place_in e.recalled lines - 1)
key_pressed e key.Down lines = option_map_or (λ k. recall e lines (min (k + 1) (length lines - 1))) e.recalled e
key_pressed e key.PageUp lines = recall e lines 0
key_pressed e key.PageDown lines = recall e lines (length lines - 1)
key_pressed e key.Rest lines = record e { line = completed_by e.line (slice_index_or lines (length lines - 1) []) }
key_pressed e key.Search lines =
    option_map_or (λ k. record e { line = matched_as e.line (slice_index_or lines k []); recalled = Some k })
    (found (take e.line.caret e.line.units) lines (place_in e.recalled lines)) e
key_pressed e k lines = record e { line = edited_by e.line k }

-- the line: the initial text with the caret at its end, and the flag as it is at the beginning, after all presses; a masked key acts
-- before the table, and changes nothing
abbrev pub line_of : CookedRead → Edited
line_of r =
    let opened : Edited = record { line = record { units = r.initial; caret = length r.initial; insert = r.insert }; recalled = None } in
    fold (λ e m. if is_masked r.mask m.pressed then e else key_pressed e (key_of m.pressed) m.lines) opened r.presses

-- the control by which the last press woke the read, or 0 where it did not
abbrev pub woken_by : CookedRead → ℕ
woken_by r = fold (λ before m. if is_masked r.mask m.pressed then typed_unit m.pressed else 0) 0 r.presses

-- a read after one more record
abbrev pub after_press : CookedRead → Record → LineHistories → CookedRead
after_press r one histories = record r { presses = r.presses ++ (let m : Moment = record { pressed = one; lines = lines_of histories r.program } in m) ∷ [] }

abbrev pub is_return : LineKey → Bool
is_return key.Return = true
is_return _ = false

-- what a read gives: where a control woke it, the units before the caret, the control, and the units from the caret on;
-- else the lines that its text stands for: those of its expansion, or itself, each with its end
abbrev pub answer_of : CookedRead → List AliasList → List ℕ
answer_of r ls =
    let l : LineText = (line_of r).line in
    if woken_by r == 0 then unwrap_or (expansion ls r.program l.units) (l.units ++ line_end) else take l.caret l.units ++ woken_by r ∷ drop l.caret l.units

-- the histories after it: a line that a control woke is not added
abbrev pub histories_after : CookedRead → LineHistories → LineHistories
histories_after r histories = if woken_by r == 0 then added_to histories r.program (line_of r).line.units else histories

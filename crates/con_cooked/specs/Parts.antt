-- The code's own words: a key by its code step by step, and the parts of what a press does and a read gives.
use Rattle.std.specs.Prelude.{ℕ, ◌+◌, ◌-◌, Bool, not, ◌==◌, ◌||◌, List, [], ◌∷◌, ◌++◌, Option, None, Some, length, take, drop, min, slice_index_or, fold, unwrap_or, bit_and, if◌then◌else◌}
use Rattle.std.specs.Option.{option_map_or}
use Rattle.con_units.specs.Stored.{is_control}
use Rattle.con_records.specs.declared.record.Record.{Record}
use Rattle.con_records.specs.declared.record.Key.{Key}
use Rattle.con_line.specs.Line.{LineText, matched_as}
use Rattle.con_line.specs.Words.Line.{pressed as line_pressed}
use Rattle.con_line.specs.declared.press.Press.{Press}
use Rattle.con_alias.specs.Aliases.{AliasList}
use Rattle.con_alias.specs.Expansion.{expansion, line_end}
use Rattle.con_cooked.specs.Keys.{key_of}
use Rattle.con_cooked.specs.Mask.{is_masked, typed_unit}
use Rattle.con_cooked.specs.Cooked.{Edited, Moment, recall, key_pressed}
use Rattle.con_cooked.specs.declared.keys.LineKey.{LineKey}
use Rattle.con_cooked.specs.declared.keys.LineKey.TheVariants as key

-- VK_INSERT, VK_DELETE, VK_F3 and VK_F8
abbrev pub edit_of : ℕ → LineKey
edit_of vk =
    if vk == 0x2D then key.Insert
    else if vk == 0x2E then key.Delete
    else if vk == 0x72 then key.Rest
    else if vk == 0x77 then key.Search
    else key.Nothing

-- VK_PRIOR, VK_NEXT, VK_END and VK_HOME
abbrev pub page_of : ℕ → LineKey
page_of vk =
    if vk == 0x21 then key.PageUp
    else if vk == 0x22 then key.PageDown
    else if vk == 0x23 then key.End
    else if vk == 0x24 then key.Home
    else edit_of vk

-- VK_LEFT, VK_UP, VK_RIGHT and VK_DOWN
abbrev pub arrow_of : ℕ → Bool → LineKey
arrow_of vk ctrl =
    if vk == 0x25 then (if ctrl then key.WordLeft else key.Left)
    else if vk == 0x26 then key.Up
    else if vk == 0x27 then (if ctrl then key.WordRight else key.Right)
    else if vk == 0x28 then key.Down
    else page_of vk

-- VK_RETURN, VK_BACK and VK_ESCAPE
abbrev pub code_of : ℕ → ℕ → Bool → LineKey
code_of vk unit ctrl =
    if (unit == 0x0D) || (vk == 0x0D) then key.Return
    else if (vk == 0x08) || (unit == 0x08) then key.Back
    else if vk == 0x1B then key.Escape
    else arrow_of vk ctrl

-- a unit that is typed: no control, and not 0
abbrev pub is_typed : ℕ → Bool
is_typed unit = not (is_control unit)

-- a key that is down, by its unit or else by its code; ctrl is LEFT_CTRL_PRESSED (8)
abbrev pub key_in : Key → LineKey
key_in k =
    if not k.down then key.Nothing
    else if is_typed k.unit then key.Unit k.unit
    else code_of k.vk k.unit (not (bit_and k.state 8 == 0))

abbrev pub edited : Edited → Press → Edited
edited e p = record e { line = line_pressed e.line p [] }

-- one newer than the recalled line, the newest staying; nothing where none was recalled
abbrev pub newer : Edited → List (List ℕ) → Option ℕ → Edited
newer e lines o = option_map_or (λ k. recall e lines (min (k + 1) (length lines - 1))) o e

-- the line that a search found
abbrev pub matched : Edited → List (List ℕ) → Option ℕ → Edited
matched e lines o = option_map_or (λ k. record e { line = matched_as e.line (slice_index_or lines k []); recalled = Some k }) o e

-- a masked key acts before the table, and changes nothing
abbrev pub pressed_at : ℕ → Edited → Moment → Edited
pressed_at mask e m = if is_masked mask m.pressed then e else key_pressed e (key_of m.pressed) m.lines

-- the initial text with the caret at its end, and the flag as it is at the beginning
abbrev pub opened : Bool → List ℕ → Edited
opened insert initial = record { line = record { units = initial; caret = length initial; insert = insert }; recalled = None }

-- the line of a list of presses
abbrev pub line_after : ℕ → Edited → List Moment → Edited
line_after mask e presses = fold (pressed_at mask) e presses

-- the control by which a record wakes a read, or 0 where it does not
abbrev pub waking_unit : ℕ → Record → ℕ
waking_unit mask one = if is_masked mask one then typed_unit one else 0

-- the control by which the last press woke the read, or 0 where it did not
abbrev pub woken_after : ℕ → List Moment → ℕ
woken_after mask presses = fold (λ before m. waking_unit mask m.pressed) 0 presses

-- the lines that a text stands for: those of its expansion, or itself, each with its end
abbrev pub lines_for : List AliasList → List ℕ → List ℕ → List ℕ
lines_for ls program text = unwrap_or (expansion ls program text) (text ++ line_end)

-- a text with a control where its caret is
abbrev pub split_by : ℕ → LineText → List ℕ
split_by control l = take l.caret l.units ++ control ∷ drop l.caret l.units

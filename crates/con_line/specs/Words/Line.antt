-- The words of the code and of laws about Line, which a reader need not believe.
use Rattle.std.specs.Prelude.{ℕ, ◌+◌, ◌-◌, ◌≤◌, not, nat_eq, nat_lt, ◌==◌, List, [], length, min, if◌then◌else◌}
use Rattle.std.specs.List.{common_prefix_len}
use Rattle.con_units.specs.Units.{is_space, is_other}
use Rattle.con_line.specs.Line.{LineText, back_while, on_while, typed, erased_at, recalled_as, completed_by, matched_as}
use Rattle.con_line.specs.declared.press.Press.{Press}
use Rattle.con_line.specs.declared.press.Press.TheVariants as key
use Rattle.con_line.specs.declared.edit.Edit.{Edit}

-- a line of at most 1,024 units, with its caret inside or at its end
pub record IsLine (l : LineText) : Type 0 where
  pub few : length l.units ≤ 1024
  pub caret : l.caret ≤ length l.units

-- the line after a key, where `recalled` is the line of the history that the key brings in, empty where there is none
abbrev pub pressed : LineText → Press → List ℕ → LineText
pressed l (key.Unit u) recalled = typed l u
pressed l key.Left recalled = record l { caret = l.caret - 1 }
pressed l key.Right recalled = record l { caret = min (l.caret + 1) (length l.units) }
pressed l key.WordLeft recalled = record l { caret = back_while is_other l.units (back_while is_space l.units l.caret) }
pressed l key.WordRight recalled = record l { caret = on_while is_space l.units (on_while is_other l.units l.caret) }
pressed l key.Home recalled = record l { caret = 0 }
pressed l key.End recalled = record l { caret = length l.units }
pressed l key.Back recalled = if l.caret == 0 then l else erased_at l (l.caret - 1)
pressed l key.Delete recalled = if nat_lt l.caret (length l.units) then erased_at l l.caret else l
pressed l key.Insert recalled = record l { insert = not l.insert }
pressed l key.Clear recalled = record l { units = []; caret = 0 }
pressed l key.Recall recalled = recalled_as l recalled
pressed l key.RestOfLast recalled = completed_by l recalled
pressed l key.Match recalled = matched_as l recalled
pressed l key.Nothing recalled = l

-- what changed between two texts
abbrev pub edit_between : List ℕ → List ℕ → Edit
edit_between old new = record { first = common_prefix_len nat_eq old new; before = length old }

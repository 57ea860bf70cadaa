-- The text of an edited line, and what each key does to it.
use Rattle.std.specs.Prelude.{ℕ, zero, suc, ◌+◌, Bool, not, nat_lt, ◌==◌, ◌&&◌, List, ◌++◌, length, take, drop, insert, remove, slice_set, slice_index, if◌then◌else◌}
use Rattle.std.specs.List.{prefix_len}

-- a line that is being edited: its units, the place of its caret, and whether typed units are put in
pub record LineText : Type 0 where
  pub units : List ℕ
  pub caret : ℕ
  pub insert : Bool

-- how far back from a place units pass a test
abbrev pub back_while : (ℕ → Bool) → List ℕ → ℕ → ℕ
back_while p units zero = zero
back_while p units (suc k) = if p (slice_index units k) then back_while p units k else suc k

-- how far on from a place they do
abbrev pub on_while : (ℕ → Bool) → List ℕ → ℕ → ℕ
on_while p units k = k + prefix_len p (drop k units)

-- a typed unit: it replaces the one at the caret where the flag is off and there is one,
-- else it is put in at the caret where the text has fewer than 1,024 units
abbrev pub typed : LineText → ℕ → LineText
typed l u =
    if nat_lt l.caret (length l.units) && not l.insert then record l { units = slice_set l.units l.caret u; caret = l.caret + 1 }
    else if nat_lt (length l.units) 1024 then record l { units = insert l.units l.caret u; caret = l.caret + 1 }
    else l

-- the unit at a place goes, and the caret is there
abbrev pub erased_at : LineText → ℕ → LineText
erased_at l k = record l { units = remove l.units k; caret = k }

-- a line of the history in place of the text
abbrev pub recalled_as : LineText → List ℕ → LineText
recalled_as l recalled = if length recalled == 0 then l else record l { units = recalled; caret = length recalled }

abbrev pub completed_by : LineText → List ℕ → LineText
completed_by l recalled =
    if nat_lt l.caret (length recalled) then record l { units = take l.caret l.units ++ drop l.caret recalled; caret = length recalled } else l

abbrev pub matched_as : LineText → List ℕ → LineText
matched_as l recalled = if length recalled == 0 then l else record l { units = recalled }

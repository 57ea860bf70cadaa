-- Line histories: for each program the lines that were typed, oldest first, and the programs in order of use.
use Rattle.std.specs.Prelude.{ℕ, zero, suc, ◌+◌, ◌-◌, Bool, not, nat_eq, nat_lt, ◌==◌, ◌||◌, List, [], ◌∷◌, ◌++◌, Option, Some, None, length, take, drop, remove, filter, find, map, slice_index_or, if◌then◌else◌}
use Rattle.std.specs.List.{starts_with, position_or_len, list_any}
use Rattle.std.specs.Option.{option_or, option_map_or}
use Rattle.std.specs.Str.{bytes_eq as same_units}
use Rattle.con_units.specs.Units.{changed_where}
use Rattle.con_history.specs.declared.info.HistoryInfo.{HistoryInfo}

-- a program's lines, oldest first, and how many there are at most
pub record ProgramLines : Type 0 where
  pub program : List ℕ
  pub lines : List (List ℕ)
  pub limit : ℕ

-- the histories, least recently used first, and the settings
pub record LineHistories : Type 0 where
  pub used : List ProgramLines
  pub info : HistoryInfo

-- the last n of a list
abbrev pub newest : {X : Type 0} → ℕ → List X → List X
newest n xs = drop (length xs - n) xs

-- the lines with one more: an empty one changes nothing; equal ones are taken out before where that is asked for, and of all then the newest stay, as many as
-- the limit says
abbrev pub added : Bool → ℕ → List (List ℕ) → List ℕ → List (List ℕ)
added no_duplicates limit lines line =
    if length line == 0 then lines
    else newest limit ((if no_duplicates then filter (λ other. not (same_units other line)) lines else lines) ++ line ∷ [])

-- the last, among the n lines from a place on, that begins with these units
abbrev pub last_that_begins : List ℕ → List (List ℕ) → ℕ → ℕ → Option ℕ
last_that_begins start lines low zero = None
last_that_begins start lines low (suc n) =
    if starts_with nat_eq (slice_index_or lines (low + n) []) start then Some (low + n) else last_that_begins start lines low n

-- the search goes from before a place down to the oldest, and then from the newest down to that place
abbrev pub found : List ℕ → List (List ℕ) → ℕ → Option ℕ
found start lines from = option_or (last_that_begins start lines 0 from) (last_that_begins start lines from (length lines - from))

-- a program's lines; none where it has no history
abbrev pub lines_of : LineHistories → List ℕ → List (List ℕ)
lines_of s program = option_map_or (λ h. h.lines) (find (λ h. same_units h.program program) s.used) []

-- a program's history, changed
abbrev pub changed_in : (ProgramLines → ProgramLines) → List ProgramLines → List ℕ → List ProgramLines
changed_in f used program = changed_where (λ h. same_units h.program program) f used

-- a line more
abbrev pub added_to : LineHistories → List ℕ → List ℕ → LineHistories
added_to s program line =
    record s { used = changed_in (λ h. record h { lines = added (s.info.flag == 1) h.limit h.lines line }) s.used program }

abbrev pub cleared : LineHistories → List ℕ → LineHistories
cleared s program = record s { used = changed_in (λ h. record h { lines = [] }) s.used program }

-- the histories after a program has used its own, which goes last, an empty one where it had none: a new one where there is place
-- for one more, or else one in place of the least recently used whose program is not busy
abbrev pub used_by : LineHistories → List ℕ → List (List ℕ) → LineHistories
used_by s program busy =
    let own : ℕ = position_or_len (λ h. same_units h.program program) s.used in
    let idle : ℕ = position_or_len (λ h. not (list_any (λ b. same_units b h.program) busy)) s.used in
    let empty : ProgramLines = record { program = program; lines = []; limit = s.info.lines } in
    if nat_lt own (length s.used) then record s { used = remove s.used own ++ take 1 (drop own s.used) }
    else if nat_lt (length s.used) s.info.number then record s { used = s.used ++ empty ∷ [] }
    else if nat_lt idle (length s.used) then record s { used = remove s.used idle ++ empty ∷ [] }
    else s

-- settings that are refused: all but 1 to 999 lines, 1 to 64 histories and a flag of 0 or 1
abbrev pub is_refused : HistoryInfo → Bool
is_refused info = info.lines == 0 || nat_lt 999 info.lines || info.number == 0 || nat_lt 64 info.number || nat_lt 1 info.flag

-- the histories under other settings: the least recently used ones go, and the others keep their newest lines
abbrev pub configured : LineHistories → HistoryInfo → LineHistories
configured s info =
    let kept : List ProgramLines = map {A = ProgramLines} (λ h. record h { lines = newest info.lines h.lines; limit = info.lines }) (newest info.number s.used) in
    if is_refused info then s else record { used = kept; info = info }

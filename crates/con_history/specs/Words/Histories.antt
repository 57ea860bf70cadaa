-- The words of the code and of laws about Histories, which a reader need not believe.
use Rattle.std.specs.Prelude.{ℕ, ◌≤◌, Bool, not, nat_lt, ◌||◌, List, [], Option, Some, None, length, find, min, replicate, if◌then◌else◌}
use Rattle.std.specs.List.{position_or_len, list_any}
use Rattle.std.specs.Option.{option_map_or}
use Rattle.std.specs.Str.{bytes_eq as same_units}
use Rattle.con_history.specs.Histories.{ProgramLines, LineHistories, is_refused}
use Rattle.con_history.specs.declared.info.HistoryInfo.{HistoryInfo}

-- every line has at most 1,024 units
abbrev pub IsShort : List ℕ → Type 0
IsShort line = length line ≤ 1024

-- where a program's history stands, or how many there are
abbrev pub place_of : List ℕ → List ProgramLines → ℕ
place_of program used = position_or_len (λ h. same_units h.program program) used

abbrev pub has_history : LineHistories → List ℕ → Bool
has_history s program = nat_lt (place_of program s.used) (length s.used)

abbrev pub lines_in : List ProgramLines → List ℕ → List (List ℕ)
lines_in used program = option_map_or (λ h. h.lines) (find (λ h. same_units h.program program) used) []

-- the least recently used history whose program is not busy, or how many there are
abbrev pub idle_place : List (List ℕ) → List ProgramLines → ℕ
idle_place busy used = position_or_len (λ h. not (list_any (λ b. same_units b h.program) busy)) used

-- an empty history of a program
abbrev pub fresh_of : LineHistories → List ℕ → ProgramLines
fresh_of s program = record { program = program; lines = []; limit = s.info.lines }

-- whether a program can use a history: it has one, there is place for one more, or one that is not busy can go
abbrev pub can_use : LineHistories → List ℕ → List (List ℕ) → Bool
can_use s program busy =
    has_history s program || nat_lt (length s.used) s.info.number || nat_lt (idle_place busy s.used) (length s.used)

-- what has to be there before a program uses its history
abbrev pub room_for_use : LineHistories → List ℕ → Option ProgramLines
room_for_use s program = if has_history s program then None else Some (fresh_of s program)

-- what has to be there before the settings change: a buffer for each history that stays
abbrev pub room_for_configure : LineHistories → HistoryInfo → List ℕ
room_for_configure s info = if is_refused info then [] else replicate (min (length s.used) info.number) info.lines

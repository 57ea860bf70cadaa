-- The code's own words: one step of what the histories do.
use Rattle.std.specs.Prelude.{ℕ, Bool, not, List, filter}
use Rattle.std.specs.List.{list_any}
use Rattle.con_units.specs.Words.Units.{same_units}
use Rattle.con_history.specs.Histories.{ProgramLines, newest}

-- the lines that are not this one
abbrev pub without : List ℕ → List (List ℕ) → List (List ℕ)
without line lines = filter (λ other. not (same_units other line)) lines

-- a history of another limit keeps its newest lines
abbrev pub shortened : ℕ → ProgramLines → ProgramLines
shortened limit h = record h { lines = newest limit h.lines; limit = limit }

abbrev pub is_busy : List (List ℕ) → List ℕ → Bool
is_busy busy program = list_any (λ b. same_units b program) busy

-- How a report goes, whole or in part, and a last line alone.
use Rattle.std.specs.Prelude.{◌≡◌, ◌⊎◌, ℕ, ◌==◌, List, Option, if◌then◌else◌}
use Rattle.con_outside.specs.Outside.{then_written, WrotePart}
use Rattle.con_lines.specs.Ending.{Ending, status_of, ending_text}
use Rattle.con_lines.specs.Line.{ended}

-- the status where the report failed: of several causes the call's own comes first
abbrev pub lost_status : ℕ → ℕ
lost_status told = if told == 0 then 6 else told

-- How a report of this text goes, by the status: all of it was written, and the status is this one; or a part, since the report failed; or a part, by 9, for
-- want of memory.
abbrev pub Reported : ℕ → ℕ → List ℕ → Option (List ℕ) → Option (List ℕ) → Type 0 → Type 0
Reported status told text before now failed =
    ((status ≡ told) × (now ≡ then_written before text))
    ⊎ (((status ≡ lost_status told) × WrotePart text before now × failed) ⊎ ((status ≡ 9) × WrotePart text before now))

-- a last line alone
abbrev pub Tells : ℕ → Ending → Option (List ℕ) → Option (List ℕ) → Type 0 → Type 0
Tells status last before now failed = Reported status (status_of last) (ended (ending_text last)) before now failed

-- How a session of a file with a second terminal ends: from the bytes of its file and of its link to those of both terminals and of the report.
use Rattle.std.specs.Prelude.{◌≡◌, ◌⊎◌, ℕ, Bool, List, Option}
use Rattle.con_events.specs.Session.{Clients}
use Rattle.con_events.specs.declared.end.End.{End}
use Rattle.con_events.specs.declared.entry.Entry.{Entry}
use Rattle.con_events.specs.declared.reply.Reply.{Reply}
use Rattle.con_outside.specs.Outside.{then_written}
use Rattle.con_machine.specs.Follows.{session_start}
use Rattle.con_laws.specs.Once.{TakenOnce}
use Rattle.con_actors.specs.Second.{IsMirrorOutcome}
use Rattle.con_lines.specs.Ending.{status_of}
use Rattle.con_telling.specs.Telling.{mirror_ending, told_report}
use Rattle.con_sessions.specs.Sessions.{ReadBack}
use Rattle.con_ending.specs.Ending.{Reported}
use Rattle.con_ending.specs.Files.{OfFile}

-- the report of a history with its answers and ends, up to this end
abbrev pub mirror_report : List Entry → List Reply → List ℕ → End → Bool → List ℕ
mirror_report h rs es end lost = told_report h rs es (mirror_ending end lost)

-- The session ran by turns, with a second terminal: one history, with all that such a session leaves, A and D being frames that count as Ask; the second
-- terminal's stream with its ends, and whether it was lost; and the report, or a part of it, where the report failed or there was no memory.
pub record RanMirrored (status : ℕ) (session : Clients) (racks : List (List ℕ))
    (before left old now was written before_report report' : Option (List ℕ)) (failed second_failed : Type 0) : Type 0 where
  pub entries : List Entry
  pub replies : List Reply
  pub ends' : List ℕ
  pub end : End
  pub seconds : List ℕ
  pub lost : Bool
  pub outcome : IsMirrorOutcome session racks entries replies ends' end seconds lost before left old now was written
  pub once : TakenOnce (session_start session racks) entries
  pub reported : Reported status (status_of (mirror_ending end lost)) (mirror_report entries replies ends' end lost) before_report report' failed
  pub read : ReadBack entries replies ends' end (mirror_ending end lost) before_report report'
  -- all built bytes of the second terminal's stream were written with 0 and 6, and with every other status but 9, unless it failed
  pub shown : ¬ (status ≡ 9) → (status ≡ 0) ⊎ ((status ≡ 6) ⊎ ¬ second_failed) → written ≡ then_written was outcome.leaves.more.built

-- all of it; without a session nothing is written to either terminal
abbrev pub HasMirrored : ℕ → Option (List ℕ → Option (List ℕ)) → List ℕ → Type 0 → List (List ℕ) → Option (List ℕ) → Option (List ℕ)
    → Option (List ℕ) → Option (List ℕ) → Option (List ℕ) → Option (List ℕ) → Option (List ℕ) → Option (List ℕ) → Type 0 → Type 0 → Type 0
HasMirrored status files name files_failed racks before left old now was written before_report report' failed second_failed =
    OfFile (λ session. RanMirrored status session racks before left old now was written before_report report' failed second_failed)
    ((left ≡ before) × (now ≡ old) × (written ≡ was)) status files name files_failed before_report report' failed

-- How an audit of four files ends.
use Rattle.std.specs.Prelude.{◌≡◌, ◌⊎◌, ℕ, List, Option, Some, Ok}
use Rattle.con_events.specs.Session.{Clients}
use Rattle.con_outside.specs.Outside.{then_written}
use Rattle.con_document.specs.Document.{IsDocument}
use Rattle.con_trace.specs.Audit.{a_run, found_text}
use Rattle.con_lines.specs.Ending.{status_of, ending_text}
use Rattle.con_lines.specs.Line.{ended}
use Rattle.con_trace.specs.Report.{IsReport}
use Rattle.con_trace.specs.declared.trace.Trace.{Trace}
use Rattle.con_ending.specs.Ending.{Reported}
use Rattle.con_ending.specs.Files.{Reason, ending_for}
use Rattle.con_audit.specs.Headline.{IsRun}
use Rattle.con_inspect.specs.Four.{Four, four_of, AreFiles, Bars}
use Rattle.con_inspect.specs.Finding.{given, Finds, told, status_found}
use Rattle.con_inspect.specs.declared.finding.Finding.{Finding}

-- ---- what is found of files by name

pub data Judged : Type 0 where
  barred : Reason → Judged
  found : Finding → Judged

-- there is nothing to audit; or the files have their bytes, of which the first are a session's document, and this is found
abbrev pub IsJudged : Option (List ℕ → Option (List ℕ)) → Four → Type 0 → Judged → Type 0
IsJudged files names failed (barred why) = Bars files names failed why
IsJudged files names failed (found f) = (four : Four) × AreFiles files names four × (session : Clients) × IsDocument four.session (Ok session)
    × Finds session four f

-- ---- how it is told

-- the status, where there is memory and the report does not fail
abbrev pub status_for : Judged → ℕ
status_for (barred why) = status_of (ending_for why)
status_for (found f) = status_found f

-- the one line that says so, with its line feed
abbrev pub line_for : Judged → List ℕ
line_for (barred why) = ended (ending_text (ending_for why))
line_for (found f) = ended (found_text (told f))

-- ---- all of it

-- The files' bytes are a run: a session's document, a link, the stream of a terminal, and a report of status 0, which determines a legal history that
-- follows the session and the link to the end, the console's replies, and where in the stream each picture is shown.
abbrev pub AreARun : Option (List ℕ → Option (List ℕ)) → Four → Type 0
AreARun files names = (four : Four) × AreFiles files names four × (session : Clients) × IsDocument four.session (Ok session)
    × (t : Trace) × IsReport four.report t × (t.status ≡ 0) × IsRun (given session four t)

pub record Audits (status : ℕ) (files : Option (List ℕ
    → Option (List ℕ))) (names : Four) (files_failed : Type 0) (before now : Option (List ℕ)) (failed : Type 0) : Type 0 where
  -- there was no memory, and nothing was written; or what was found is told, whole or in part
  pub told : ((status ≡ 9) × (now ≡ before))
      ⊎ ((judged : Judged) × IsJudged files names files_failed judged × Reported status (status_for judged) (line_for judged) before now failed)
  -- with status 0 a yes was written, whole
  pub line : status ≡ 0 → now ≡ then_written before (ended (found_text a_run))
  -- where the answer is yes, the bytes of the files are a run
  pub run : (status ≡ 0) ⊎ (status ≡ 6) → AreARun files names

abbrev pub HasAudited : ℕ → Option (List ℕ → Option (List ℕ)) → List ℕ → List ℕ → List ℕ → List ℕ → Type 0 → Option (List ℕ) → Option (List ℕ) → Type 0
    → Type 0
HasAudited status files session link stream report files_failed before now failed =
    Audits status files (four_of session link stream report) files_failed before now failed

-- Whatever is found of files that are told, the status is that of it, unless there was no memory.
abbrev pub IsComplete : ℕ → Option (List ℕ → Option (List ℕ)) → Four → Type 0 → Type 0 → Type 0
IsComplete status files names files_failed failed = (find : List ℕ → Option (List ℕ)) → files ≡ Some find → ¬ files_failed → ¬ failed
    → (judged : Judged) → IsJudged files names files_failed judged → (status ≡ status_for judged) ⊎ (status ≡ 9)

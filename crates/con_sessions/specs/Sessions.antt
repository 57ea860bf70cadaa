-- How a session of a file ends, by threads and by turns: from the bytes of its file and of its link to those of the terminal and of the report.
use Rattle.std.specs.Prelude.{◌≡◌, ℕ, true, false, List, Option}
use Rattle.con_events.specs.Session.{Clients}
use Rattle.con_events.specs.declared.end.End.{End}
use Rattle.con_events.specs.declared.entry.Entry.{Entry}
use Rattle.con_events.specs.declared.reply.Reply.{Reply}
use Rattle.con_outside.specs.Outside.{WroteFront}
use Rattle.con_machine.specs.Follows.{session_start}
use Rattle.con_laws.specs.Once.{TakenOnce}
use Rattle.con_laws.specs.Rounds.{Rounds, is_memory}
use Rattle.con_actors.specs.Outcome.{Leaves}
use Rattle.con_ending.specs.Ending.{Reported}
use Rattle.con_ending.specs.Files.{OfFile}
use Rattle.con_lines.specs.Ending.{Ending, IsEnding, status_of}
use Rattle.con_trace.specs.Report.{History, IsHistory, IsReport, report_of}
use Rattle.con_trace.specs.declared.trace.Trace.{Trace}
use Rattle.con_forms.specs.Told.{is_told}
use Rattle.con_telling.specs.Telling.{ending_after, told_report}

-- ---- the session's end

-- the report of a history with its answers and ends, up to this end; it ends before a Paint that has no end
abbrev pub report_text : List Entry → List Reply → List ℕ → End → List ℕ
report_text h rs es end = told_report h rs es (ending_after end)

-- ---- the report as its reader has it

-- what a report is read as
abbrev pub trace_of : List Entry → List Reply → List ℕ → ℕ → Trace
trace_of h rs es status = record { entries = h; replies = rs; ends = es; status = status }

-- a text is a report of this, and of nothing else
abbrev pub ReadsAs : List ℕ → Trace → Type 0
ReadsAs text t = IsReport text t × ((other : Trace) → IsReport text other → other ≡ t)

-- what was written is a front of a report
abbrev pub IsFrontOfReport : Option (List ℕ) → Option (List ℕ) → Type 0
IsFrontOfReport before now = (h : History) × (last : Ending) × IsHistory h × IsEnding last × WroteFront (report_of h last) before now

-- The whole report, read back, gives this history, these answers, ends and status, and no others; each Paint has its end but for want of memory; and
-- what was written is a front of a report in any case.
pub record ReadBack (h : List Entry) (rs : List Reply) (es : List ℕ) (end : End) (last : Ending) (before now : Option (List ℕ)) : Type 0 where
  pub whole : is_told h rs es ≡ true → ReadsAs (told_report h rs es last) (trace_of h rs es (status_of last))
  pub all' : is_memory end ≡ false → is_told h rs es ≡ true
  pub of_report : IsFrontOfReport before now

-- The session ran, in whatever order its actors came: one history, with all that such a session leaves, in which each
-- record of the input goes to one read at most and each read answers what is of its records, and its report, with the status that its last line tells,
-- or a part of it, where the report failed or there was no memory. Its reader has this history of it.
pub record Ran (status : ℕ) (session : Clients) (racks : List (List ℕ)) (before left old now before_report report' : Option (List ℕ))
    (failed : Type 0) : Type 0 where
  pub entries : List Entry
  pub replies : List Reply
  pub ends' : List ℕ
  pub end : End
  pub leaves : Leaves session racks entries replies ends' end before left old now
  pub once : TakenOnce (session_start session racks) entries
  pub reported : Reported status (status_of (ending_after end)) (report_text entries replies ends' end) before_report report' failed
  pub read : ReadBack entries replies ends' end (ending_after end) before_report report'

-- It ran by turns: the same, and its history is rounds of these turns.
pub record RanByTurns (status : ℕ) (session : Clients) (racks : List (List ℕ)) (before left old now before_report report' : Option (List ℕ))
    (failed : Type 0) : Type 0 where
  pub ran : Ran status session racks before left old now before_report report' failed
  pub rounds : Rounds (session_start session racks) ran.entries session racks ran.end

-- ---- all of it

-- by threads
abbrev pub HasRun : ℕ → Option (List ℕ → Option (List ℕ)) → List ℕ → Type 0 → List (List ℕ) → Option (List ℕ) → Option (List ℕ)
    → Option (List ℕ) → Option (List ℕ) → Option (List ℕ) → Option (List ℕ) → Type 0 → Type 0
HasRun status files name files_failed racks before left old now before_report report' failed =
    OfFile (λ session. Ran status session racks before left old now before_report report' failed) ((left ≡ before) × (now ≡ old)) status files name
    files_failed before_report report' failed

-- by turns
abbrev pub Soloed : ℕ → Option (List ℕ → Option (List ℕ)) → List ℕ → Type 0 → List (List ℕ) → Option (List ℕ) → Option (List ℕ)
    → Option (List ℕ) → Option (List ℕ) → Option (List ℕ) → Option (List ℕ) → Type 0 → Type 0
Soloed status files name files_failed racks before left old now before_report report' failed =
    OfFile (λ session. RanByTurns status session racks before left old now before_report report' failed) ((left ≡ before) × (now ≡ old)) status files name
    files_failed before_report report' failed

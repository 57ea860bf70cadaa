-- How a generated session ends: from its number to the bytes of the terminal and of the report.
use Rattle.std.specs.Prelude.{◌≡◌, ℕ, ◌⊎◌, List, [], Option, Some, codes}
use Rattle.con_outside.specs.Outside.{then_written, WrotePart}
use Rattle.con_events.specs.declared.end.End.TheVariants as ends
use Rattle.con_events.specs.declared.entry.Entry.{Entry}
use Rattle.con_events.specs.declared.reply.Reply.{Reply}
use Rattle.con_machine.specs.Follows.{session_start}
use Rattle.con_laws.specs.Once.{TakenOnce}
use Rattle.con_script.specs.Generated.{session_drawn}
use Rattle.con_actors.specs.Outcome.{IsSoloOutcome}
use Rattle.con_lines.specs.Ending.{worded}
use Rattle.con_ending.specs.Ending.{Reported, Tells}
use Rattle.con_sessions.specs.Summary.{summary_text}

-- The session of a number has run to its end, by turns, without handlers, over a link of no bytes: its history, its replies, the ends of its frames, and the
-- stream of all of them; each record of its input goes to one read at most.
pub record GeneratedRun (seed : ℕ) : Type 0 where
  pub entries : List Entry
  pub replies : List Reply
  pub ends' : List ℕ
  pub stream : List ℕ
  pub left : Option (List ℕ)
  pub outcome : IsSoloOutcome (session_drawn seed) [] entries replies ends' ends.Done (Some []) left (Some []) (Some stream)
  pub once : TakenOnce (session_start (session_drawn seed) []) entries

-- its summary
abbrev pub summary_of : (seed : ℕ) → GeneratedRun seed → List ℕ
summary_of seed r = summary_text (session_drawn seed) r.entries r.replies r.stream

-- What may have happened, by what the terminal and the report have:
-- - there was no memory (9), and nothing was written;
-- - the session has run, the terminal has its whole stream, and the report is its summary, whole (0), or a part of it, since the report failed (6) or there was
--   no memory (9);
-- - the session has run, and the terminal has a part of its stream: there was no memory for the rest (9), or the terminal failed, and the last line alone tells
--   that (5).
abbrev pub Generated : ℕ → ℕ → Option (List ℕ) → Option (List ℕ) → Option (List ℕ) → Option (List ℕ) → Type 0 → Type 0
Generated status seed old now before report failed =
    ((status ≡ 9) × (now ≡ old) × (report ≡ before))
    ⊎ ((run : GeneratedRun seed) × (((now ≡ then_written old run.stream) × Reported status 0 (summary_of seed run) before report failed)
    ⊎ (WrotePart run.stream old now × (((status ≡ 9) × (report ≡ before)) ⊎ Tells status (worded 5 (codes "term")) before report failed))))

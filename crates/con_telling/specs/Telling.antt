-- The lines of a history, without the last one; a report as far as it is told; and the last line of a session.
use Rattle.std.specs.Prelude.{ℕ, Bool, true, List, [], ◌∷◌, ◌++◌, codes, if◌then◌else◌}
use Rattle.con_events.specs.declared.end.End.{End}
use Rattle.con_events.specs.declared.end.End.TheVariants as ends
use Rattle.con_events.specs.declared.entry.Entry.{Entry}
use Rattle.con_events.specs.declared.reply.Reply.{Reply}
use Rattle.con_lines.specs.Ending.{Ending, alone, at_frame, worded}
use Rattle.con_lines.specs.declared.said.Said.{Said}
use Rattle.con_trace.specs.Report.{report, said, said_text}
use Rattle.con_forms.specs.Told.{is_told, told}

abbrev pub lines_text : List Said → List ℕ
lines_text [] = []
lines_text (s ∷ ss) = said_text s ++ lines_text ss

-- the report of a history with its answers and ends, and this last line
abbrev pub ended_report : List Entry → List Reply → List ℕ → Ending → List ℕ
ended_report h rs es last = report (said h rs es) last

-- the same as far as it is told: it ends before a Paint that has no end, and then has no last line
abbrev pub told_report : List Entry → List Reply → List ℕ → Ending → List ℕ
told_report h rs es last = if is_told h rs es then ended_report h rs es last else lines_text (told h rs es)

-- ---- the session's end

-- the last line of a session that ended so
abbrev pub ending_after : End → Ending
ending_after ends.Done = alone 0
ending_after ends.Term = worded 5 (codes "term")
ending_after ends.Link = worded 4 (codes "link")
ending_after ends.TooLong = worded 10 (codes "too long")
ending_after (ends.Bad place kind) = at_frame place kind
ending_after ends.Memory = alone 9

-- the last line of a session that ended so, and whether its second terminal failed: where all else was done, the line says that
abbrev pub mirror_ending : End → Bool → Ending
mirror_ending ends.Done true = worded 12 (codes "mirror")
mirror_ending end lost = ending_after end

-- A whole report, and what is wrong with another text.
use Rattle.std.specs.Prelude.{◌≡◌, ◌⊎◌, ℕ, zero, suc, ◌<◌, List, [], ◌∷◌, ◌++◌, length}
use Rattle.std.specs.List.{AllByRecursion}
use Rattle.con_events.specs.Actors.{paints}
use Rattle.con_events.specs.declared.entry.Entry.{Entry}
use Rattle.con_events.specs.declared.event.Event.{Event}
use Rattle.con_events.specs.declared.event.Event.TheVariants as event
use Rattle.con_events.specs.declared.reply.Reply.{Reply}
use Rattle.con_lines.specs.declared.said.Said.{Said}
use Rattle.con_trace.specs.declared.trace.Trace.{Trace}
use Rattle.con_lines.specs.Line.{line_text, ended}
use Rattle.con_lines.specs.Fits.{IsLine}
use Rattle.con_lines.specs.Ending.{Ending, IsEnding, status_of, ending_text}

abbrev pub said_text : Said → List ℕ
said_text s = ended (line_text s.entry s.reply s.end)

abbrev pub report : List Said → Ending → List ℕ
report [] last = ended (ending_text last)
report (s ∷ ss) last = said_text s ++ report ss last

-- ---- a history: an answer for each event, and a length for each picture

pub record History : Type 0 where
  pub entries : List Entry
  pub replies : List Reply
  pub ends : List ℕ

-- the length that an event takes, which a picture has, and those behind it
abbrev pub next_end : Event → List ℕ → ℕ × List ℕ
next_end event.Paint [] = (0, [])
next_end event.Paint (n ∷ ns) = (n, ns)
next_end other ns = (0, ns)

abbrev pub said : List Entry → List Reply → List ℕ → List Said
said (e ∷ es) (r ∷ rs) ns = record { entry = e; reply = r; end = (next_end e.event ns).0 } ∷ said es rs (next_end e.event ns).1
said _ _ ns = []

-- the history has an answer for each event and a length for each picture, all of them as lines have them
pub record IsHistory (h : History) : Type 0 where
  pub answered : length h.replies ≡ length h.entries
  pub shown : length h.ends ≡ paints h.entries
  pub lines : AllByRecursion IsLine (said h.entries h.replies h.ends)

abbrev pub report_of : History → Ending → List ℕ
report_of h last = report (said h.entries h.replies h.ends) last

-- what was read of a text
abbrev pub history_of : Trace → History
history_of t = record { entries = t.entries; replies = t.replies; ends = t.ends }

-- the text is the report of the trace, with a last line of its status
abbrev pub IsReport : List ℕ → Trace → Type 0
IsReport text t = (last : Ending) × IsEnding last × (status_of last ≡ t.status) × IsHistory (history_of t) × (text ≡ report_of (history_of t) last)

-- ---- the first line of a text that is none of a report, counted from 0

abbrev pub IsWrongAt : ℕ → List ℕ → Type 0
IsWrongAt zero text = ((s : Said) (rest : List ℕ) → IsLine s → text ≡ said_text s ++ rest → ⊥)
    × ((e : Ending) (rest : List ℕ) → IsEnding e → text ≡ ended (ending_text e) ++ rest → ⊥)
IsWrongAt (suc n) text = ((s : Said) × (rest : List ℕ) × IsLine s × (text ≡ said_text s ++ rest) × IsWrongAt n rest)
    ⊎ ((e : Ending) × (rest : List ℕ) × IsEnding e × (text ≡ ended (ending_text e) ++ rest) × (0 < length rest) × (n ≡ 0))

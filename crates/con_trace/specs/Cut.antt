-- A text cut at its first line feed, and what one line is.
use Rattle.std.specs.Prelude.{◌≡◌, ℕ, ◌==◌, List, [], ◌∷◌, ◌++◌, length, map, if◌then◌else◌, Option, Some, None, option_map}
use Rattle.con_events.specs.declared.event.Event.{Event}
use Rattle.con_events.specs.declared.event.Event.TheVariants as event
use Rattle.con_lines.specs.declared.said.Said.{Said}
use Rattle.con_lines.specs.declared.said.LineRead.{LineRead}
use Rattle.con_lines.specs.declared.said.LineRead.TheVariants as line_read
use Rattle.con_trace.specs.declared.trace.TraceFault.{TraceFault}
use Rattle.con_trace.specs.declared.trace.TraceFault.TheVariants as fault
use Rattle.con_lines.specs.Line.{line_text}
use Rattle.con_lines.specs.Ending.{Ending, IsEnding, status_of, ending_text}
use Rattle.con_lines.specs.Fits.{IsLine}
use Rattle.con_trace.specs.Report.{said_text, History, IsWrongAt}
use Rattle.con_trace.specs.Words.Report.{AreLines}

-- what stands before and behind the first line feed
abbrev pub cut_line : List ℕ → Option (List ℕ × List ℕ)
cut_line [] = None
cut_line (b ∷ bs) = if b == 10 then Some ([], bs) else option_map (λ p. (b ∷ p.0, p.1)) (cut_line bs)

-- neither an event's line nor a last line
abbrev pub IsNeither : List ℕ → Type 0
IsNeither line = ((s : Said) → IsLine s → line ≡ line_text s.entry s.reply s.end → ⊥) × ((e : Ending) → IsEnding e → line ≡ ending_text e → ⊥)

-- what was read is the line
abbrev pub IsLineRead : LineRead → List ℕ → Type 0
IsLineRead (line_read.Event s) line = IsLine s × (line ≡ line_text s.entry s.reply s.end)
IsLineRead (line_read.End status) line = (e : Ending) × IsEnding e × (status_of e ≡ status) × (line ≡ ending_text e)
IsLineRead line_read.Neither line = IsNeither line

-- ---- lines that were read one after another

abbrev pub texts : List Said → List ℕ
texts [] = []
texts (s ∷ ss) = said_text s ++ texts ss

abbrev pub with_end : Event → ℕ → List ℕ → List ℕ
with_end event.Paint n ns = n ∷ ns
with_end other n ns = ns

-- the streams' lengths of pictures
abbrev pub ends_of : List Said → List ℕ
ends_of [] = []
ends_of (s ∷ ss) = with_end s.entry.event s.end (ends_of ss)

-- the first line that is wrong, where there was memory
abbrev pub IsFault : TraceFault → List ℕ → Type 0
IsFault (fault.Line n) text = IsWrongAt n text
IsFault fault.OutOfMemory text = Unit {0}

-- a history with one line more
abbrev pub with_said : History → Said → History
with_said h s = record { entries = h.entries ++ s.entry ∷ []; replies = h.replies ++ s.reply ∷ []; ends = h.ends ++ with_end s.entry.event s.end [] }

-- so many lines were read of the bytes, as this history, and the rest is still to come
pub record Gathers (bytes rest : List ℕ) (h : History) (n : ℕ) : Type 0 where
  pub lines : List Said
  pub are : AreLines lines
  pub text : bytes ≡ texts lines ++ rest
  pub entries : h.entries ≡ map (λ s. s.entry) lines
  pub replies : h.replies ≡ map (λ s. s.reply) lines
  pub ends : h.ends ≡ ends_of lines
  pub count : n ≡ length lines

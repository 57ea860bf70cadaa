-- The words of the code and of laws about Report, which a reader need not believe.
use Rattle.std.specs.Prelude.{◌≡◌, ℕ, suc, List, [], ◌∷◌}
use Rattle.std.specs.List.{AllByRecursion}
use Rattle.con_events.specs.declared.entry.Entry.{Entry}
use Rattle.con_events.specs.declared.event.Event.{Event}
use Rattle.con_events.specs.declared.event.Event.TheVariants as event
use Rattle.con_lines.specs.declared.said.Said.{Said}
use Rattle.con_lines.specs.Fits.{IsLine}
use Rattle.con_lines.specs.Ending.{Ending, IsEnding}
use Rattle.con_trace.specs.Report.{History, next_end, IsHistory, report_of, IsWrongAt}

-- a report determines the history, the replies, the streams' lengths and the last line
abbrev pub ReportTells : Type 0
ReportTells = (h k : History) (last other : Ending) → IsHistory h → IsHistory k → IsEnding last → IsEnding other
    → report_of h last ≡ report_of k other → (h ≡ k) × (last ≡ other)

-- no line of a report is wrong
abbrev pub NoneIsWrong : Type 0
NoneIsWrong = (h : History) (last : Ending) (n : ℕ) → IsHistory h → IsEnding last → IsWrongAt n (report_of h last) → ⊥

abbrev pub AreLines : List Said → Type 0
AreLines ss = AllByRecursion IsLine ss

abbrev pub end_of : Event → List ℕ → ℕ
end_of e ns = (next_end e ns).0

abbrev pub ends_behind : Event → List ℕ → List ℕ
ends_behind e ns = (next_end e ns).1

abbrev pub with_picture : Event → ℕ → ℕ
with_picture event.Paint n = suc n
with_picture other n = n

-- as `paints`
abbrev pub pictures : List Entry → ℕ
pictures [] = 0
pictures (e ∷ es) = with_picture e.event (pictures es)

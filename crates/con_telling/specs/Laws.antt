-- Laws of a report, for the crates above.
use Rattle.std.proofs.Common.{◌≡◌, refl, ap, sym, ◌∙◌, append_assoc, arith, length-append, ℕ, ◌+◌, List, [], ◌∷◌, ◌++◌, length, take, Option, Bool, true}
use Rattle.std.specs.Prelude.{if◌then◌else◌}
use Rattle.std.proofs.Math.Seq.{take-append-add}
use Rattle.std.proofs.lemmas.List.{take-append-le}
use Rattle.con_outside.specs.Outside.{then_written, WroteFront}
use Rattle.con_outside.specs.Laws.{then_written-none, then_written-more}
use Rattle.con_events.specs.declared.entry.Entry.{Entry}
use Rattle.con_events.specs.declared.reply.Reply.{Reply}
use Rattle.con_lines.specs.declared.said.Said.{Said}
use Rattle.con_lines.specs.Ending.{Ending, ending_text}
use Rattle.con_lines.specs.Line.{ended}
use Rattle.con_trace.specs.Report.{said_text, report}
use Rattle.con_forms.specs.Told.{is_told, told}
use Rattle.con_telling.specs.Telling.{ended_report, lines_text, told_report}

-- a front of what stands behind what was written is a front of all
unfoldable pub front_behind : (a b c all : List ℕ) (old now new : Option (List ℕ)) → now ≡ then_written old a → all ≡ a ++ (b ++ c)
    → WroteFront b now new → WroteFront all old new
front_behind a b c all old now new wrote parts w = (
  length a + w.0,
  (let e : length all ≡ length a + (length b + length c) = ap length parts ∙ (length-append a (b ++ c) ∙ ap (λ n. length a + n) (length-append b c)) in
      omega (arith, e, w.1)),
  then_written-more a (take w.0 b) old now new wrote w.2
      ∙ ap (then_written old) (ap (λ xs. a ++ xs) (sym (take-append-le w.0 b c w.1))
      ∙ (sym (take-append-add a (b ++ c) w.0) ∙ ap (take (length a + w.0)) (sym parts))),
)

-- a report is its lines, and behind them the last one
pub report_parts : (ss : List Said) (last : Ending) → report ss last ≡ lines_text ss ++ ended (ending_text last)
report_parts [] last = refl
report_parts (s ∷ ss) last = ap (λ xs. said_text s ++ xs) (report_parts ss last) ∙ sym (append_assoc (said_text s) (lines_text ss) (ended (ending_text last)))

-- the lines were cut
pub report_cut : (ss : List Said) (last : Ending) (old new : Option (List ℕ)) → WroteFront (lines_text ss) old new → WroteFront (report ss last) old new
report_cut ss last old new w =
    front_behind [] (lines_text ss) (ended (ending_text last)) (report ss last) old old new (then_written-none old) (report_parts ss last) w

-- where all is told it is the whole report
pub whole_is_told : (h : List Entry) (rs : List Reply) (ns : List ℕ) (last : Ending) → is_told h rs ns ≡ true
    → told_report h rs ns last ≡ ended_report h rs ns last
whole_is_told h rs ns last t = ap (λ (b : Bool). if b then ended_report h rs ns last else lines_text (told h rs ns)) t

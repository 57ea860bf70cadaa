-- Laws: each event is answered by its form, and a legal history is one of a report.
use Rattle.std.specs.Prelude.{◌≡◌, ◌≤◌, ℕ, true, List, length, map}
use Rattle.con_events.specs.declared.actor.Actor.{Actor}
use Rattle.con_events.specs.declared.end.End.{End}
use Rattle.con_events.specs.declared.entry.Entry.{Entry}
use Rattle.con_events.specs.declared.event.Event.{Event}
use Rattle.con_events.specs.declared.event.Event.TheVariants as event
use Rattle.con_events.specs.declared.reply.Reply.{Reply}
use Rattle.con_machine.specs.Follows.{are_of_session}
use Rattle.con_machine.specs.History.{is_legal, replies_of}
use Rattle.con_machine.specs.State.{State}
use Rattle.con_machine.specs.Step.{step}
use Rattle.con_lines.specs.Form.{form_of}
use Rattle.con_trace.specs.Report.{History, IsHistory, said}
use Rattle.con_trace.specs.Words.Report.{pictures}
use Rattle.con_forms.specs.Formed.{HasForm, IsPicture, reported}
use Rattle.con_forms.specs.Kept.{Kept}
use Rattle.con_forms.specs.Told.{is_told, told}
use Rattle.con_forms.specs.Words.Told.{history_told}

-- an event is answered by its form, and Paint by a picture
abbrev pub AnswerHasForm : Event → Reply → Type 0
AnswerHasForm event.Paint r = IsPicture r
AnswerHasForm other r = HasForm (form_of other) r

abbrev pub AnswersHaveForms : Type 0
AnswersHaveForms = (s : State) (a : Actor) (e : Event) → AnswerHasForm e (step s a e).reply

-- what a history is answered, as a report has it
abbrev pub answers : State → List Entry → List Reply
answers s h = map reported (replies_of s h)

-- the lines of a legal history, up to a picture without a length, are those of a history of a report, of whatever state the console begins in
abbrev pub HistoriesFit : Type 0
HistoriesFit = (s : State) (n : ℕ) (h : List Entry) (ns : List ℕ) (end : End) → is_legal s h ≡ true → are_of_session n h ≡ true
    → Kept h (answers s h) ns end → length ns ≤ pictures h
    → IsHistory (history_told (told h (answers s h) ns) ns)

-- these lines are what a report says of that history
abbrev pub AreSaid : Type 0
AreSaid = (h : List Entry) (rs : List Reply) (ns : List ℕ) → (let k = history_told (told h rs ns) ns in said k.entries k.replies k.ends) ≡ told h rs ns

-- where each picture has its length and each event its answer, these lines are all
abbrev pub AllAreTold : Type 0
AllAreTold = (h : List Entry) (rs : List Reply) (ns : List ℕ) → length rs ≡ length h → is_told h rs ns ≡ true
    → history_told (told h rs ns) ns ≡ (let k : History = record { entries = h; replies = rs; ends = ns } in k)

-- and each picture has one where there are as many
abbrev pub EachIsTold : Type 0
EachIsTold = (h : List Entry) (rs : List Reply) (ns : List ℕ) → length rs ≡ length h → length ns ≡ pictures h → is_told h rs ns ≡ true

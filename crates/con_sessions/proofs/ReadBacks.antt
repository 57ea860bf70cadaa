-- A session's report as its reader has it.
use Rattle.std.proofs.Common.{◌≡◌, inl, inr, refl, sym, subst, ap, ap₂, ◌∙◌, arith, ℕ, suc, ◌+◌, ◌≤◌, Bool, true, false, List, [], ◌∷◌, length, map, Option}
use Rattle.std.specs.Prelude.{if◌then◌else◌}
use Rattle.con_link.specs.LinkReading.{LinkReading}
use Rattle.con_outside.specs.Outside.{WroteFront}
use Rattle.con_events.specs.Session.{Clients}
use Rattle.con_events.specs.declared.end.End.{End}
use Rattle.con_events.specs.declared.end.End.TheVariants as ends
use Rattle.con_events.specs.declared.entry.Entry.{Entry}
use Rattle.con_events.specs.declared.event.Event.{Event}
use Rattle.con_events.specs.declared.event.Event.TheVariants as events
use Rattle.con_events.specs.declared.reply.Reply.{Reply}
use Rattle.con_events.specs.declared.reply.Reply.TheVariants as replies
use Rattle.con_machine.specs.Follows.{session_start}
use Rattle.con_machine.specs.History.{replies_of}
use Rattle.con_machine.specs.State.{State}
use Rattle.con_machine.specs.Step.{step}
use Rattle.con_machine.specs.Turns.{is_paint, paints}
use Rattle.con_actors.specs.Desk.{listed}
use Rattle.con_actors.specs.Outcome.{LeavesBy}
use Rattle.con_lines.specs.Ending.{Ending, IsEnding, alone, done, no_memory, link, terminal, too_long, mirror, frame, status_of}
use Rattle.con_trace.specs.Report.{History, IsHistory, history_of, report}
use Rattle.con_trace.specs.Words.Report.{ReportTells, pictures, with_picture}
use Rattle.con_forms.specs.Formed.{reported}
use Rattle.con_forms.specs.Kept.{EndKeeps, Kept}
use Rattle.con_forms.specs.Laws.{AllAreTold, AreSaid, EachIsTold, HistoriesFit, answers}
use Rattle.con_forms.specs.Told.{is_told, told}
use Rattle.con_forms.specs.Words.Told.{history_told}
use Rattle.con_telling.specs.Telling.{ended_report, ending_after, lines_text, mirror_ending, told_report}
use Rattle.con_sessions.specs.Sessions.{IsFrontOfReport, ReadBack, ReadsAs, trace_of}
use Rattle.con_telling.specs.Laws.{report_cut, whole_is_told}

-- ---- replies as a session lists them are replies as a report has them, and its pictures are the Paints

one_reply : (r : Reply) → listed r ≡ reported r
one_reply replies.Done = refl
one_reply (replies.Fail why) = refl
one_reply (replies.Number n) = refl
one_reply (replies.Numbers zs) = refl
one_reply (replies.Units us) = refl
one_reply (replies.Records rs) = refl
one_reply (replies.Cells r gs) = refl
one_reply (replies.Lines ls) = refl
one_reply (replies.Ctrl n) = refl
one_reply (replies.View v marks fresh) = refl

all_replies : (rs : List Reply) → map listed rs ≡ map reported rs
all_replies [] = refl
all_replies (r ∷ rs) = ap₂ (λ (x : Reply) (xs : List Reply). x ∷ xs) (one_reply r) (all_replies rs)

as_many : (s : State) (h : List Entry) → length (answers s h) ≡ length h
as_many s [] = refl
as_many s (x ∷ xs) = ap suc (as_many (step s x.actor x.event).after xs)

one_picture : (e : Event) (n : ℕ) → (if is_paint e then 1 else 0) + n ≡ with_picture e n
one_picture events.Paint n = omega arith
one_picture (events.Call c) n = omega arith
one_picture (events.Begin w) n = omega arith
one_picture events.Collect n = omega arith
one_picture events.TakeCtrl n = omega arith
one_picture (events.Exit s) n = omega arith
one_picture (events.Feed bs) n = omega arith
one_picture events.Quiet n = omega arith
one_picture (events.Resize s) n = omega arith
one_picture events.Ask n = omega arith
one_picture events.Hangup n = omega arith
one_picture events.Drained n = omega arith

all_pictures : (h : List Entry) → paints h ≡ pictures h
all_pictures [] = refl
all_pictures (x ∷ xs) = one_picture x.event (paints xs) ∙ ap (with_picture x.event) (all_pictures xs)

-- ---- the last line

pub ends_so : (end : End) → EndKeeps end → IsEnding (ending_after end)
ends_so ends.Done k = done
ends_so ends.Term k = terminal
ends_so ends.Link k = link
ends_so ends.TooLong k = too_long
ends_so (ends.Bad place kind) k = frame place kind k
ends_so ends.Memory k = no_memory

pub mirror_ends_so : (end : End) (lost : Bool) → EndKeeps end → IsEnding (mirror_ending end lost)
mirror_ends_so ends.Done true k = mirror
mirror_ends_so ends.Done false k = done
mirror_ends_so ends.Term lost k = terminal
mirror_ends_so ends.Link lost k = link
mirror_ends_so ends.TooLong lost k = too_long
mirror_ends_so (ends.Bad place kind) lost k = frame place kind k
mirror_ends_so ends.Memory lost k = no_memory

-- ---- what is read

-- a report of a history of its own is read as that history, and as no other
reads_as : ReportTells → (h : List Entry) (rs : List Reply) (es : List ℕ) (last : Ending)
    → IsHistory (let k : History = record { entries = h; replies = rs; ends = es } in k) → IsEnding last → is_told h rs es ≡ true
    → ReadsAs (told_report h rs es last) (trace_of h rs es (status_of last))
reads_as tells h rs es last good ends all =
    let k : History = record { entries = h; replies = rs; ends = es } in
    let text = whole_is_told h rs es last all in (
      (last, ends, refl, good, text),
      λ other r.
          let same = tells (history_of other) k r.0 last r.3 good r.1 ends (sym r.4 ∙ text) in
          let status : other.status ≡ status_of last = sym r.2 ∙ ap status_of same.1 in
          λ i. record { entries = (same.0 i).entries; replies = (same.0 i).replies; ends = (same.0 i).ends; status = status i },
    )

-- what was written is a front of a report: of the whole one, or of that of the lines that are told
front_by : AreSaid → (b : Bool) (h : List Entry) (rs : List Reply) (es : List ℕ) (last : Ending) (before now : Option (List ℕ)) → is_told h rs es ≡ b
    → (is_told h rs es ≡ true → IsHistory (let k : History = record { entries = h; replies = rs; ends = es } in k)) → IsHistory (history_told (told h rs es) es) → IsEnding last
    → WroteFront (told_report h rs es last) before now → IsFrontOfReport before now
front_by are true h rs es last before now is whole some ends wrote =
    ((let k : History = record { entries = h; replies = rs; ends = es } in k), last, whole is, ends, subst (λ x. WroteFront x before now) (whole_is_told h rs es last is) wrote)
front_by are false h rs es last before now is whole some ends wrote =
    let lines : WroteFront (lines_text (told h rs es)) before now = subst (λ (b : Bool). WroteFront (if b then ended_report h rs es last else lines_text (told h rs es)) before now) is wrote in (
      history_told (told h rs es) es,
      alone 9,
      some,
      no_memory,
      subst (λ ss. WroteFront (report ss (alone 9)) before now) (sym (are h rs es)) (report_cut (told h rs es) (alone 9) before now lines),
    )

pub read_back : (R : LinkReading) (More : List R.One → List Entry → Type 0) (session : Clients) (racks : List (List ℕ)) (h : List Entry) (rs : List Reply) (es : List ℕ) (end : End)
    (before left old now : Option (List ℕ)) (last : Ending) (was is : Option (List ℕ)) → HistoriesFit → AreSaid → AllAreTold → EachIsTold → ReportTells
    → LeavesBy R More session racks h rs es end before left old now → Kept h rs es end → IsEnding last → WroteFront (told_report h rs es last) was is
    → ReadBack h rs es end last was is
read_back R More session racks h rs es end before left old now last was is fit are all each tells l kept ends wrote =
    let s = session_start session racks in
    let same : rs ≡ answers s h = l.replies ∙ all_replies (replies_of s h) in
    let many : length rs ≡ length h = ap length same ∙ as_many s h in
    let few : length es ≤ pictures h = elim l.but_last [
      | inl e ↦ (let p = all_pictures h in omega (arith, e, p))
      | inr e ↦ (let p = all_pictures h in omega (arith, e, p))
    ] in
    let some : IsHistory (history_told (told h rs es) es) = subst (λ xs. IsHistory (history_told (told h xs es) es)) (sym same)
    (fit s _ h es end l.legal l.follows.actors (subst (λ xs. Kept h xs es end) same kept) few) in
    let whole : is_told h rs es ≡ true → IsHistory (let k : History = record { entries = h; replies = rs; ends = es } in k) = λ t. subst IsHistory (all h rs es many t) some in record {
      whole = λ t. reads_as tells h rs es last (whole t) ends t;
      all' = λ m. each h rs es many (l.ends' m ∙ all_pictures h);
      of_report = front_by are (is_told h rs es) h rs es last was is refl whole some ends wrote;
    }

-- The laws of fates, of one history.
use Rattle.std.proofs.Common.{◌≡◌, ◌⊎◌, ℕ, true, List, [], ◌∷◌, ◌++◌, Some, refl, sym, ap, ◌∙◌, subst, inl, inr}
use Rattle.std.specs.Prelude.{take}
use Rattle.con_alias.specs.Aliases.{AliasList}
use Rattle.con_history.specs.Histories.{LineHistories}
use Rattle.con_events.specs.Session.{Clients}
use Rattle.con_events.specs.declared.actor.Actor.TheVariants as actors
use Rattle.con_events.specs.declared.entry.Entry.{Entry}
use Rattle.con_events.specs.declared.event.Event.TheVariants as events
use Rattle.con_events.specs.declared.event.Wanted.{Wanted}
use Rattle.con_events.specs.declared.event.Wanted.TheVariants as wanted
use Rattle.con_events.specs.declared.reply.Reply.TheVariants as replies
use Rattle.con_units.specs.declared.code.Code.TheVariants as code
use Rattle.con_procs.specs.Procs.{is_attached}
use Rattle.con_readers.specs.Pieces.{joined}
use Rattle.con_readers.specs.Words.Pieces.{pieces_of}
use Rattle.con_readers.specs.Reads.{settled, has_done}
use Rattle.con_readers.specs.declared.open.Open.{Open}
use Rattle.con_records.specs.declared.record.Record.{Record}
use Rattle.con_machine.specs.State.{State, rest_in}
use Rattle.con_laws.specs.Answers.{read_opened, EndsSo}
use Rattle.con_laws.specs.Words.Answers.{opens}
use Rattle.con_laws.specs.AnswerWalks.{console_before, was_interrupted, was_cut_off, is_aborted, is_closed}
use Rattle.con_laws.specs.Fates.{Taker, Begun, Interrupted, CutOff, Piece, done_for}
use Rattle.con_laws.specs.Fates as now
use Rattle.con_laws.specs.Walks.{Begin, AnswersRecords, arrived, pieces, fate, fated, last_begin, wants_records}
use Rattle.con_machine.specs.Follows.{session_start}
use Rattle.con_machine.specs.History.{run}
use Rattle.con_laws.specs.Once.{TakenOnce, Collects, peek}
use Rattle.con_laws.specs.Remains as remains
use Rattle.con_laws.specs.Rested.{IsLeft}
use Rattle.con_laws.specs.Settled.{IsSettled}
use Rattle.con_machine.specs.Step.{step}
use Rattle.con_laws.specs.Texts.{asked_for}
use Rattle.con_laws.specs.Texts as texts
use Rattle.con_laws.specs.TextWalks.{AnswersText}
use Rattle.con_laws.proofs.Fating.{arrived_same, pieces_same, fate_same, fated_same, last_same}
use Rattle.con_laws.proofs.Remaining.{left_so, text_so, aborted_so, closed_so}
use Rattle.con_laws.proofs.Idling.{peek_leaves, begins_settled}
use Rattle.con_laws.proofs.Rested.{left_once}
use Rattle.con_laws.proofs.Opened.{last_opened}

-- a client collects its read
abbrev collect : ℕ → Entry
collect p = record { actor = actors.Client p; event = events.Collect }

-- what the laws of fates say of every console and history
pub record Laws : Type 0 where
  pub serving : (al : List AliasList) (os : List Open) (rs : List Record) (hs : LineHistories) → joined (pieces_of al os rs hs) ++ (settled al os rs hs).records ≡ rs
  pub whole : (s : State) (h : List Entry) → s.records ++ arrived s h ≡ joined (pieces s h) ++ (run s h).records
  pub each : (s : State) (h : List Entry) (t : Taker) → fated s h t ≡ joined (done_for t (pieces s h))
  pub records : (s : State) (h later : List Entry) (p : ℕ) (b : Begin) → last_begin s h p ≡ Some b → wants_records b.wanted ≡ true
      → is_attached (run s h).procs p ≡ true → has_done (run s h).reads p ≡ true
      → AnswersRecords (step (run s h) (actors.Client p) events.Collect).reply (fated s (h ++ collect p ∷ later) (Begun b.place))
  pub texts : (s : State) (h later : List Entry) (p : ℕ) (b : Begin) (units : List ℕ) → s.noted ≡ [] → last_begin s h p ≡ Some b
      → is_attached (run s h).procs p ≡ true → has_done (run s h).reads p ≡ true
      → (let all = h ++ collect p ∷ later in (step (run s h) (actors.Client p) events.Collect).reply ≡ replies.Units units
      → AnswersText (opens (console_before s all b.place) p b.wanted) (asked_for b.wanted) (done_for (Begun b.place) (pieces s all))
      (fated s all (Begun b.place)) units)
  pub aborted : (s : State) (h : List Entry) (p : ℕ) (b : Begin) → last_begin s h p ≡ Some b → is_attached (run s h).procs p ≡ true
      → has_done (run s h).reads p ≡ true → is_aborted (step (run s h) (actors.Client p) events.Collect).reply ≡ was_interrupted (Begun b.place) (pieces s h)
  pub closed : (s : State) (h : List Entry) (p : ℕ) (b : Begin) → last_begin s h p ≡ Some b → is_attached (run s h).procs p ≡ true
      → has_done (run s h).reads p ≡ true → is_closed (step (run s h) (actors.Client p) events.Collect).reply ≡ was_cut_off (Begun b.place) (pieces s h)
  pub peeked : (s : State) (h : List Entry) (p hd n k : ℕ) → s.reads ≡ [] → fate s (h ++ peek p hd n ∷ []) k ≡ fate s h k
  pub stays : (s : State) (h later : List Entry) (k : ℕ) (t : Taker) → fate s h k ≡ Some t → fate s (h ++ later) k ≡ Some t

abbrev begin_of : ℕ → Wanted → Begin
begin_of place w = record { place = place; wanted = w }

whole_so : Laws → (s : State) (h : List Entry) → s.records ++ now.arrived s h ≡ joined (now.pieces s h) ++ (run s h).records
whole_so laws s h =
    ap (λ (rs : List Record). s.records ++ rs) (arrived_same laws.serving s h)
    ∙ (laws.whole s h ∙ ap (λ (ps : List Piece). joined ps ++ (run s h).records) (sym (pieces_same s h)))

each_so : Laws → (s : State) (h : List Entry) (t : Taker) → now.fated s h t ≡ joined (done_for t (now.pieces s h))
each_so laws s h t = fated_same s h t (run s h).records (whole_so laws s h)

-- the records of a fate, as they are walked and as they are promised
fated_so : Laws → (s : State) (h : List Entry) (t : Taker) → fated s h t ≡ now.fated s h t
fated_so laws s h t = laws.each s h t ∙ (ap (λ (ps : List Piece). joined (done_for t ps)) (sym (pieces_same s h)) ∙ sym (each_so laws s h t))

last_so : (s : State) (h before later : List Entry) (p place : ℕ) (w : Wanted) → Collects s h before later p place w → last_begin s before p ≡ Some (begin_of place w)
last_so s h before later p place w at = last_same s before p place w at.last at.wanted

answers_so : Laws → (s : State) (h before later : List Entry) (p place hd n : ℕ) → Collects s h before later p place (wanted.ReadInput hd n)
    → (let reply = (step (run s before) (actors.Client p) events.Collect).reply in
    (reply ≡ replies.Records (now.fated s h (Begun place))) ⊎ ((reply ≡ replies.Fail code.Closed) × (now.fated s h (Begun place) ≡ [])))
answers_so laws s h before later p place hd n at =
    let reply = (step (run s before) (actors.Client p) events.Collect).reply in
    let P : List Entry → Type 0 = λ all. AnswersRecords reply (fated s all (Begun place)) in
    let Q : List Record → Type 0 = λ rs. AnswersRecords reply rs in
    subst Q (fated_so laws s h (Begun place)) (subst P (sym at.is)
    (laws.records s before later p (begin_of place (wanted.ReadInput hd n)) (last_so s h before later p place (wanted.ReadInput hd n) at) refl at.attached at.done))

opened_so : (s : State) (h before later : List Entry) (p place : ℕ) (w : Wanted) → Collects s h before later p place w
    → read_opened (run s (take place h)) p w ≡ Some (opens (run s (take place h)) p w)
opened_so s h before later p place w at =
    let P : List Entry → Type 0 = λ all. read_opened (run s (take place all)) p w ≡ Some (opens (run s (take place all)) p w) in
    subst P (sym at.is) (last_opened s before (collect p ∷ later) p (begin_of place w) (last_so s h before later p place w at))

texts_so : Laws → (s : State) (h : List Entry) → s.noted ≡ [] → (before later : List Entry) (p place : ℕ) (w : Wanted) (units : List ℕ) → Collects s h before later p place w
    → (step (run s before) (actors.Client p) events.Collect).reply ≡ replies.Units units
    → texts.AnswersText (read_opened (run s (take place h)) p w) (asked_for w) (done_for (Begun place) (now.pieces s h)) (now.fated s h (Begun place)) units
texts_so laws s h unnoted before later p place w units at told =
    let b : Begin = begin_of place w in
    let P : List Entry → Type 0 = λ all. AnswersText (opens (console_before s all place) p w) (asked_for w) (done_for (Begun place) (pieces s all)) (fated s all (Begun place)) units in
    let Q : List Piece → Type 0 = λ ps. AnswersText (opens (console_before s h place) p w) (asked_for w) (done_for (Begun place) ps) (fated s h (Begun place)) units in
    let R : List Record → Type 0 = λ rs. AnswersText (opens (console_before s h place) p w) (asked_for w) (done_for (Begun place) (now.pieces s h)) rs units in
    text_so (read_opened (run s (take place h)) p w) (opens (run s (take place h)) p w) (asked_for w) (done_for (Begun place) (now.pieces s h)) (now.fated s h (Begun place)) units
    (opened_so s h before later p place w at)
    (subst R (fated_so laws s h (Begun place)) (subst Q (sym (pieces_same s h)) (subst P (sym at.is)
    (laws.texts s before later p b units unnoted (last_so s h before later p place w at) at.attached at.done told))))

failed_so : Laws → (s : State) (h before later : List Entry) (p place : ℕ) (w : Wanted) → Collects s h before later p place w
    → (let reply = (step (run s before) (actors.Client p) events.Collect).reply in let done = done_for (Begun place) (now.pieces s before) in
    EndsSo Interrupted code.Aborted reply done × EndsSo CutOff code.Closed reply done)
failed_so laws s h before later p place w at =
    let b : Begin = begin_of place w in
    let reply = (step (run s before) (actors.Client p) events.Collect).reply in
    let last = last_so s h before later p place w at in
    let P : List Piece → Type 0 = λ ps. EndsSo Interrupted code.Aborted reply (done_for (Begun place) ps) × EndsSo CutOff code.Closed reply (done_for (Begun place) ps) in
    subst P (sym (pieces_same s before)) (
      aborted_so (Begun place) (pieces s before) reply (laws.aborted s before p b last at.attached at.done),
      closed_so (Begun place) (pieces s before) reply (laws.closed s before p b last at.attached at.done),
    )

rests_so : (s : State) (before : List Entry) (p hd : ℕ) (rest : List ℕ) → (rest ≡ []) ⊎ IsLeft s before p hd rest → (rest ≡ []) ⊎ remains.IsLeft s before p hd rest
rests_so s before p hd rest (inl e) = inl e
rests_so s before p hd rest (inr k) = inr (left_so s before p hd rest k)

pub once : Laws → (s : State) (h : List Entry) → s.reads ≡ [] → s.noted ≡ [] → s.rests ≡ [] → IsSettled s → TakenOnce s h
once laws s h none unnoted unrested settled = record {
  pieces' = whole_so laws s h;
  fates = each_so laws s h;
  answers = answers_so laws s h;
  texts = texts_so laws s h unnoted;
  failed = failed_so laws s h;
  rests = λ before later p hd is. rests_so s before p hd (rest_in (run s before).rests p hd) (left_once s before p hd unrested);
  peeks = λ before later p hd n is. (
    peek_leaves s before p hd n settled,
    λ k. fate_same s (before ++ peek p hd n ∷ []) k ∙ (laws.peeked s before p hd n k none ∙ sym (fate_same s before k)),
  );
  keeps = λ before later k t is e. subst (λ (all : List Entry). now.fate s all k ≡ Some t) (sym is)
      (fate_same s (before ++ later) k ∙ laws.stays s before later k t (sym (fate_same s before k) ∙ e));
}

pub session_once : Laws → (session : Clients) (racks : List (List ℕ)) (h : List Entry) → TakenOnce (session_start session racks) h
session_once laws session racks h = once laws (session_start session racks) h refl refl refl (begins_settled session racks)

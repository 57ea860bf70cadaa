-- What a Collect answers as a text.
use Rattle.std.proofs.Common.{◌≡◌, ◌==◌, ◌||◌, ◌+◌, ℕ, Bool, true, false, not, cond, List, [], ◌∷◌, ◌++◌, suc, refl, ap, ◌∙◌, sym, subst, append-nil, Option, None, Some, slice_get, true≢false, arith}
use Rattle.std.specs.Prelude.{fold, if◌then◌else◌}
use Rattle.std.specs.List.{list_any}
use Rattle.std.proofs.lemmas.Bool.{or_parts, eq-eqb}
use Rattle.std.proofs.lemmas.List.Sums.{fold-append}
use Rattle.con_units.specs.declared.code.Code.TheVariants as code
use Rattle.con_alias.specs.Aliases.{AliasList}
use Rattle.con_cooked.specs.Cooked.{is_return}
use Rattle.con_cooked.specs.Keys.{key_of}
use Rattle.con_cooked.specs.Mask.{is_masked}
use Rattle.con_cooked.specs.declared.cooked.Cooked.{Cooked}
use Rattle.con_events.specs.declared.actor.Actor.TheVariants as actors
use Rattle.con_events.specs.declared.entry.Entry.{Entry}
use Rattle.con_events.specs.declared.event.Event.TheVariants as events
use Rattle.con_events.specs.declared.event.Wanted.{Wanted}
use Rattle.con_events.specs.declared.event.Wanted.TheVariants as wanted
use Rattle.con_events.specs.declared.reply.Reply.{Reply}
use Rattle.con_events.specs.declared.reply.Reply.TheVariants as replies
use Rattle.con_history.specs.Histories.{LineHistories}
use Rattle.con_procs.specs.Procs.{is_attached, program_of}
use Rattle.con_readers.specs.Answering.{is_line_end}
use Rattle.con_readers.specs.Words.Answering.{line_through, EndsLine}
use Rattle.con_readers.specs.Words.Lines.{line_after}
use Rattle.con_readers.specs.Pieces.{front, joined}
use Rattle.con_readers.specs.Words.Pieces.{pieces_of}
use Rattle.con_readers.specs.Reads.{settled, answer_of, has_done, is_open, place_of, without}
use Rattle.con_readers.specs.Words.Reads.{done_in}
use Rattle.con_readers.specs.Serving.{Served as Serving, is_done, served, served_line}
use Rattle.con_readers.specs.Words.Serving.{served_on}
use Rattle.con_readers.specs.Wants.{units_of}
use Rattle.con_readers.specs.declared.answer.Answer.TheVariants as answers
use Rattle.con_readers.specs.declared.open.Open.{Open}
use Rattle.con_readers.specs.declared.open.OpenRead.{OpenRead}
use Rattle.con_readers.specs.declared.open.OpenRead.TheVariants as reads
use Rattle.con_records.specs.declared.record.Record.{Record}
use Rattle.con_machine.specs.State.{State, rest_in, noted_of, without_noted}
use Rattle.con_machine.specs.History.{run}
use Rattle.con_machine.specs.Outcome.{has_bit}
use Rattle.con_machine.specs.Reads.{answer_told, front_of}
use Rattle.con_machine.specs.Words.Reads.{units_told, is_empty}
use Rattle.con_machine.specs.Step.{step}
use Rattle.con_laws.specs.Fates.{Begun, How, Served, Emptied, Interrupted, CutOff, Piece, done_for}
use Rattle.con_laws.specs.Walks.{Begin, pieces, last_begin, fated}
use Rattle.con_laws.specs.Words.Answers.{opens}
use Rattle.con_laws.specs.AnswerWalks.{console_before, by_how, read_after}
use Rattle.con_laws.specs.TextWalks.{line_part, AnswersText}
use Rattle.con_laws.specs.Texts.{asked_for}
use Rattle.con_machine.specs.declared.reads.noted.Noted.{Noted}
use Rattle.con_laws.proofs.FateLists.{log}
use Rattle.con_laws.proofs.Conserved.{WholeReads}
use Rattle.con_laws.proofs.Served.{UnitsPiece, TakesAll}
use Rattle.con_laws.proofs.Mine.{Fits, Right, Becomes, done_rest}
use Rattle.con_laws.proofs.Woken.{NoteTold, told_of, waked, waked_none, woke_of}
use Rattle.con_laws.proofs.Acts.{wakes_one, wakes}
use Rattle.con_laws.proofs.Takes.{noted_at}
use Rattle.con_laws.proofs.Entries.{opens_note, line_note}
use Rattle.con_laws.proofs.Fated.{collects, collected_is, collect_by, collect_reply, fated_before}
use Rattle.con_laws.proofs.Noting.{collects_notes}
use Rattle.con_laws.proofs.Texted.{EndsPiece, TextBy, text_is, through_is, goes_on, failed_no}

-- ---- whether a masked control ended a line

-- the last record is a masked control
unfoldable last_masked : ℕ → List Record → Bool
last_masked mask rs = fold (λ before r. is_masked mask r) false rs

Wokes : ℕ → Bool → ℕ → List Record → Serving → Type 0
Wokes p b mask rs s = list_any (woke_of p) s.acts ≡ (if b then last_masked mask rs else false)

either_same : (b : Bool) (x y : Bool) → x ≡ y → (if b then x else false) ≡ (if b then y else false)
either_same true x y h = h
either_same false x y h = refl

on_wokes : (p : ℕ) (al : List AliasList) (line : Cooked) (r : Record) (rs : List Record) (hs : LineHistories) (later : Serving) (masked returned : Bool) → is_masked line.mask r ≡ masked → (later.records ≡ [] → Wokes p (is_done later.read) line.mask rs later)
    → (let s = served_on p al line (line_after line r hs) rs hs later masked returned in s.records ≡ [] → Wokes p (is_done s.read) line.mask (r ∷ rs) s)
unfolding Wokes woke_of last_masked
on_wokes p al line r rs hs later true returned m ih = λ none.
    ap (λ (b : Bool). b || false) (eq-eqb p p refl) ∙ sym m ∙ ap (λ (qs : List Record). fold (λ before q. is_masked line.mask q) (is_masked line.mask r) qs) (sym none)
on_wokes p al line r rs hs later false true m ih = λ none.
    sym m ∙ ap (λ (qs : List Record). fold (λ before q. is_masked line.mask q) (is_masked line.mask r) qs) (sym none)
on_wokes p al line r rs hs later false false m ih = λ none.
    ih none ∙ either_same (is_done later.read) (fold (λ before q. is_masked line.mask q) false rs) (fold (λ before q. is_masked line.mask q) (is_masked line.mask r) rs) (ap (λ (b : Bool). fold (λ before q. is_masked line.mask q) b rs) (sym m))

line_wokes : (p : ℕ) (al : List AliasList) (line : Cooked) (rs : List Record) (hs : LineHistories) → (let s = served_line p al line rs hs in s.records ≡ [] → Wokes p (is_done s.read) line.mask rs s)
unfolding Wokes
line_wokes p al line [] hs = λ none. refl
line_wokes p al line (r ∷ rs) hs =
    on_wokes p al line r rs hs (served_line p al (line_after line r hs) rs hs) (is_masked line.mask r) (is_return (key_of r)) refl (line_wokes p al (line_after line r hs) rs hs)

none_masked : (mask : ℕ) (rs : List Record) → list_any (is_line_end mask) rs ≡ false → last_masked mask rs ≡ false
unfolding last_masked
none_masked mask [] none = refl
none_masked mask (r ∷ rs) none =
    let parts = or_parts (is_line_end mask r) (list_any (is_line_end mask) rs) none in
    let ends = or_parts (is_masked mask r) (is_return (key_of r)) parts.0 in
    ap (λ (b : Bool). fold (λ before q. is_masked mask q) b rs) ends.0 ∙ none_masked mask rs parts.1

behind_none : (mask : ℕ) (rs ts : List Record) → last_masked mask rs ≡ false → last_masked mask (rs ++ ts) ≡ last_masked mask ts
unfolding last_masked
behind_none mask rs ts none = fold-append (λ (before : Bool) (q : Record). is_masked mask q) false rs ts ∙ ap (λ (b : Bool). fold (λ before q. is_masked mask q) b ts) none

masked_last : (mask : ℕ) (before : List Record) (last : Record) → last_masked mask (before ++ last ∷ []) ≡ is_masked mask last
unfolding last_masked
masked_last mask before last = fold-append (λ (b : Bool) (q : Record). is_masked mask q) false before (last ∷ [])

LineWakes : ℕ → Cooked → List Piece → List ℕ → Type 0
LineWakes p line xs text = Right p (reads.Line line) xs → read_after p (reads.Line line) xs ≡ reads.Done (answers.Units text) → wakes p (reads.Line line) xs ≡ last_masked line.mask (joined xs)

or_none : (b : Bool) → (b || false) ≡ b
or_none true = refl
or_none false = refl

here_wakes : (p : ℕ) (al : List AliasList) (line : Cooked) (hs : LineHistories) (rs : List Record) (xs : List Piece) (text : List ℕ) (b : Bool) → is_done (served_line p al line rs hs).read ≡ b → (served_line p al line rs hs).records ≡ []
    → ((l : Cooked) → LineWakes p l xs text) → Right p (served_line p al line rs hs).read xs → read_after p (served_line p al line rs hs).read xs ≡ reads.Done (answers.Units text)
    → (list_any (woke_of p) (served_line p al line rs hs).acts || wakes p (served_line p al line rs hs).read xs) ≡ last_masked line.mask (rs ++ joined xs)
unfolding LineWakes Wokes joined wakes
here_wakes p al line hs rs xs text true d none ih right is =
    let s : Serving = served_line p al line rs hs in
    let nothing : xs ≡ [] = done_rest p s.read xs d right in
    let here : list_any (woke_of p) s.acts ≡ last_masked line.mask rs = line_wokes p al line rs hs none ∙ ap (λ (b : Bool). if b then last_masked line.mask rs else false) d in
    subst (λ (zs : List Piece). (list_any (woke_of p) s.acts || wakes p s.read zs) ≡ last_masked line.mask (rs ++ joined zs)) (sym nothing)
    (or_none (list_any (woke_of p) s.acts) ∙ here ∙ ap (last_masked line.mask) (sym (append-nil rs)))
here_wakes p al line hs rs xs text false d none ih right is =
    let s : Serving = served_line p al line rs hs in
    let g = goes_on p al line rs hs d in
    let l : Cooked = line_through line rs hs in
    let here : list_any (woke_of p) s.acts ≡ false = line_wokes p al line rs hs none ∙ ap (λ (b : Bool). if b then last_masked line.mask rs else false) d in
    let later : wakes p (reads.Line l) xs ≡ last_masked l.mask (joined xs) = ih l (subst (λ (r : OpenRead). Right p r xs) g.read right) (subst (λ (r : OpenRead). read_after p r xs ≡ reads.Done (answers.Units text)) g.read is) in
    let mask : l.mask ≡ line.mask = ap (λ (k : Cooked). k.mask) (through_is line rs hs) in
    ap (λ (b : Bool). b || wakes p s.read xs) here ∙ ap (λ (r : OpenRead). wakes p r xs) g.read ∙ later ∙ ap (λ (m : ℕ). last_masked m (joined xs)) mask
    ∙ sym (behind_none line.mask rs (joined xs) (none_masked line.mask rs g.none))

piece_wakes : (p : ℕ) (line : Cooked) (how : How) (rs : List Record) (xs : List Piece) (text : List ℕ) → ((l : Cooked) → LineWakes p l xs text) → Fits p (reads.Line line) how rs
    → Right p (by_how p (reads.Line line) how rs) xs → read_after p (by_how p (reads.Line line) how rs) xs ≡ reads.Done (answers.Units text) → (wakes_one p (reads.Line line) how rs || wakes p (by_how p (reads.Line line) how rs) xs) ≡ last_masked line.mask (rs ++ joined xs)
unfolding Fits TakesAll served wakes_one
piece_wakes p line (Served hs al) rs xs text ih fits right is = here_wakes p al line hs rs xs text (is_done (served_line p al line rs hs).read) refl fits.1 ih right is
piece_wakes p line Emptied rs xs text ih fits right is = absurd fits
piece_wakes p line Interrupted rs xs text ih fits right is = absurd (failed_no p code.Aborted xs text right is)
piece_wakes p line CutOff rs xs text ih fits right is = absurd (failed_no p code.Closed xs text right is)

line_wakes : (p : ℕ) (xs : List Piece) (text : List ℕ) (line : Cooked) → LineWakes p line xs text
unfolding LineWakes Right joined wakes
line_wakes p [] text line = λ right is. cc
line_wakes p (x ∷ xs) text line = λ right is. piece_wakes p line x.0.how x.1 xs text (line_wakes p xs text) right.0 right.1 is

-- ---- what is cut off a text

unfoldable cut : Option NoteTold → List ℕ → List ℕ
cut None text = text
cut (Some t) text = line_part t.woken t.n text

unfoldable units_told_in : Reply → List ℕ
units_told_in (replies.Units us) = us
units_told_in _ = []

units_cut : (s : State) (n : Option Noted) (text units : List ℕ) → (units_told s n text).reply ≡ replies.Units units → units ≡ cut (told_of n) text
unfolding cut told_of units_told_in
units_cut s None text units h = sym (ap units_told_in h)
units_cut s (Some n) text units h = sym (ap units_told_in h)

record IsUnits (s : State) (n : Option Noted) (r : OpenRead) (units : List ℕ) : Type 0 where
  text : List ℕ
  read : r ≡ reads.Done (answers.Units text)
  told : units ≡ cut (told_of n) text

is_units : (s : State) (n : Option Noted) (r : OpenRead) (units : List ℕ) → is_done r ≡ true → (answer_told s n (answer_of r)).reply ≡ replies.Units units → IsUnits s n r units
is_units s n (reads.Done (answers.Units us)) units d h = record { text = us; read = refl; told = units_cut s n us units h }
is_units s n (reads.Done (answers.Records rs)) units d h = cc
is_units s n (reads.Done (answers.Fail why)) units d h = cc
is_units s n (reads.Line line) units d h = absurd (true≢false (sym d))
is_units s n (reads.Units m) units d h = absurd (true≢false (sym d))
is_units s n (reads.Records m) units d h = absurd (true≢false (sym d))

-- what is noted at a Begin is of a line, and of no other read
unfoldable NoteFits : OpenRead → ℕ → Option NoteTold → Type 0
NoteFits (reads.Line line) n o = (h : ℕ) × (o ≡ Some (record { handle = h; n = n; woken = false }))
NoteFits (reads.Units m) n o = o ≡ None
NoteFits (reads.Records m) n o = o ≡ None
NoteFits (reads.Done a) n o = o ≡ None

text_fits : (a b c : Bool) (n h : ℕ) (line : Cooked) (us : List ℕ)
    → NoteFits (if a then (if b then reads.Done (answers.Units []) else if c then reads.Line line else reads.Done (answers.Units us)) else (if b then reads.Done (answers.Units []) else reads.Units n)) n (if a then (if b then None else if c then line_note h n else None) else None)
unfolding NoteFits line_note
text_fits true true c n h line us = refl
text_fits true false true n h line us = (h, refl)
text_fits true false false n h line us = refl
text_fits false true c n h line us = refl
text_fits false false c n h line us = refl

line_in : State → ℕ → List ℕ → ℕ → Cooked
line_in s p initial mask = record { program = program_of s.procs p; insert = has_bit s.mode 0x20; initial = initial; mask = mask; presses = [] }

opens_fits : (s : State) (p : ℕ) (w : Wanted) → NoteFits (opens s p w) (asked_for w) (opens_note s p w)
unfolding opens opens_note NoteFits line_in
opens_fits s p (wanted.Read h n) = text_fits (has_bit s.mode 2) (n == 0) (is_empty (rest_in s.rests p h)) n h (line_in s p [] 0) (front_of n (rest_in s.rests p h))
opens_fits s p (wanted.ReadWith h n initial mask) = text_fits (has_bit s.mode 2) (n == 0) (is_empty (rest_in s.rests p h)) n h (line_in s p initial mask) (front_of n (rest_in s.rests p h))
opens_fits s p (wanted.ReadInput h n) = refl

cut_none : (w : Bool) (o : Option NoteTold) (text : List ℕ) → o ≡ None → cut (waked w o) text ≡ text
unfolding cut
cut_none w o text e = ap (λ (x : Option NoteTold). cut x text) (ap (waked w) e ∙ waked_none w)

cut_line : (w : Bool) (h n : ℕ) (text : List ℕ) → cut (waked w (Some (record { handle = h; n = n; woken = false }))) text ≡ line_part w n text
unfolding cut waked
cut_line true h n text = refl
cut_line false h n text = refl

answers_by : (p n : ℕ) (r : OpenRead) (xs : List Piece) (o : Option NoteTold) (text units : List ℕ) → NoteFits r n o → Right p r xs → read_after p r xs ≡ reads.Done (answers.Units text) → TextBy r xs (joined xs) text → units ≡ cut (waked (wakes p r xs) o) text
    → AnswersText r n xs (joined xs) units
unfolding NoteFits TextBy LineWakes
answers_by p n (reads.Line line) xs o text units fits right is by told =
    let masked : wakes p (reads.Line line) xs ≡ is_masked line.mask by.last = line_wakes p xs text line right is ∙ ap (last_masked line.mask) by.took ∙ masked_last line.mask by.before by.last in
    record {
      text = text;
      ended = by;
      told = told ∙ ap (λ (x : Option NoteTold). cut (waked (wakes p (reads.Line line) xs) x) text) fits.1 ∙ cut_line (wakes p (reads.Line line) xs) fits.0 n text ∙ ap (λ (b : Bool). line_part b n text) masked;
    }
answers_by p n (reads.Units m) xs o text units fits right is by told = told ∙ cut_none (wakes p (reads.Units m) xs) o text fits ∙ by
answers_by p n (reads.Records m) xs o text units fits right is by told = by
answers_by p n (reads.Done (answers.Units us)) xs o text units fits right is by told = (told ∙ cut_none (wakes p (reads.Done (answers.Units us)) xs) o text fits ∙ by.0, by.1)
answers_by p n (reads.Done (answers.Records rs)) xs o text units fits right is by told = by
answers_by p n (reads.Done (answers.Fail why)) xs o text units fits right is by told = by

-- ---- a Collect

open_by : (o : Open) (os : List Open) (p : ℕ) (m : Bool) → (o.process == p) ≡ m → (done_in (slice_get os (place_of os p)) ≡ true → is_open os p ≡ true) → (n : ℕ) → n ≡ suc (place_of os p) → done_in (slice_get (o ∷ os) (cond (not m) n 0)) ≡ true → is_open (o ∷ os) p ≡ true
open_by o os p true e ih n at d = ap (λ (b : Bool). b || is_open os p) e
open_by o os p false e ih n at d = ap (λ (b : Bool). b || is_open os p) e ∙ ih (ap (λ (k : ℕ). done_in (slice_get (o ∷ os) k)) (sym at) ∙ d)

has_open : (os : List Open) (p : ℕ) → has_done os p ≡ true → is_open os p ≡ true
has_open [] p d = d
has_open (o ∷ os) p d = open_by o os p (o.process == p) refl (has_open os p) (1 + place_of os p) (omega arith) d

pub texts_by : WholeReads → UnitsPiece → EndsPiece → (s : State) (h later : List Entry) (p : ℕ) (b : Begin) (units : List ℕ) → s.noted ≡ [] → last_begin s h p ≡ Some b → is_attached (run s h).procs p ≡ true → has_done (run s h).reads p ≡ true
    → (step (run s h) (actors.Client p) events.Collect).reply ≡ replies.Units units
    → AnswersText (opens (console_before s (h ++ collect_by p ∷ later) b.place) p b.wanted) (asked_for b.wanted) (done_for (Begun b.place) (pieces s (h ++ collect_by p ∷ later))) (fated s (h ++ collect_by p ∷ later) (Begun b.place)) units
unfolding Becomes log noted_at
texts_by whole w ends s h later p b units none last attached done reply =
    let all : List Entry = h ++ collect_by p ∷ later in
    let u : State = run s h in
    let t : State = record u { reads = without u.reads p; noted = without_noted u.noted p } in
    let c = collects w s h later p b last attached in
    let r : OpenRead = opens (console_before s all b.place) p b.wanted in
    let xs : List Piece = done_for (Begun b.place) (pieces s h) in
    let is = collected_is u p (read_after p r xs) c.becomes.1 done in
    let o : Option NoteTold = opens_note (console_before s all b.place) p b.wanted in
    let note : told_of (noted_of u.noted p) ≡ waked (wakes p r xs) o = collects_notes w s h later p b none last (has_open u.reads p done) in
    let e = is_units t (noted_of u.noted p) (read_after p r xs) units is.0 (sym is.1 ∙ sym (collect_reply u p attached) ∙ reply) in
    let told : units ≡ cut (waked (wakes p r xs) o) e.text = e.told ∙ ap (λ (x : Option NoteTold). cut x e.text) note in
    let answer : AnswersText r (asked_for b.wanted) xs (joined xs) units =
    answers_by p (asked_for b.wanted) r xs o e.text units (opens_fits (console_before s all b.place) p b.wanted) c.becomes.0 e.read (text_is ends p r xs e.text c.becomes.0 e.read) told in
    subst (λ (ys : List Piece). AnswersText r (asked_for b.wanted) ys (fated s all (Begun b.place)) units) (sym c.no_more)
    (subst (λ (rs : List Record). AnswersText r (asked_for b.wanted) xs rs units) (sym (fated_before whole s h later p b c)) answer)

pub texts : ((al : List AliasList) (os : List Open) (rs : List Record) (hs : LineHistories) → joined (pieces_of al os rs hs) ++ (settled al os rs hs).records ≡ rs)
    → ((p n : ℕ) (al : List AliasList) (rs : List Record) (hs : LineHistories) → is_done (served p al (reads.Units n) rs hs).read ≡ true
    → (served p al (reads.Units n) rs hs).read ≡ reads.Done (answers.Units (units_of n (front rs (served p al (reads.Units n) rs hs).records))))
    → ((p : ℕ) (al : List AliasList) (line : Cooked) (rs : List Record) (hs : LineHistories) → is_done (served p al (reads.Line line) rs hs).read ≡ true → EndsLine al line rs hs (served p al (reads.Line line) rs hs))
    → (s : State) (h later : List Entry) (p : ℕ) (b : Begin) (units : List ℕ) → s.noted ≡ [] → last_begin s h p ≡ Some b → is_attached (run s h).procs p ≡ true → has_done (run s h).reads p ≡ true
    → (let x : Entry = record { actor = actors.Client p; event = events.Collect } in let all = h ++ x ∷ later in
    (step (run s h) x.actor x.event).reply ≡ replies.Units units
    → AnswersText (opens (console_before s all b.place) p b.wanted) (asked_for b.wanted) (done_for (Begun b.place) (pieces s all)) (fated s all (Begun b.place)) units)
unfolding WholeReads UnitsPiece EndsPiece collect_by
texts whole w ends s h later p b units none last attached done reply = texts_by whole w ends s h later p b units none last attached done reply

-- Why a read fails: ctrl+C ended it, or the console closed.
use Rattle.std.proofs.Common.{◌≡◌, ◌==◌, ◌||◌, ℕ, Bool, true, false, List, [], ◌∷◌, ◌++◌, refl, ap, ◌∙◌, sym, Option, None, Some, true≢false}
use Rattle.std.specs.Prelude.{if◌then◌else◌}
use Rattle.std.specs.List.{list_any}
use Rattle.con_units.specs.declared.code.Code.TheVariants as code
use Rattle.con_alias.specs.Aliases.{AliasList}
use Rattle.con_cooked.specs.Cooked.{is_return}
use Rattle.con_cooked.specs.Keys.{key_of}
use Rattle.con_cooked.specs.Mask.{is_masked}
use Rattle.con_cooked.specs.declared.cooked.Cooked.{Cooked}
use Rattle.con_events.specs.declared.actor.Actor.TheVariants as actors
use Rattle.con_events.specs.declared.entry.Entry.{Entry}
use Rattle.con_events.specs.declared.event.Event.TheVariants as events
use Rattle.con_events.specs.declared.event.Wanted.{Wanted}
use Rattle.con_events.specs.declared.event.Wanted.TheVariants as wanted
use Rattle.con_events.specs.declared.reply.Reply.{Reply}
use Rattle.con_events.specs.declared.reply.Reply.TheVariants as replies
use Rattle.con_history.specs.Histories.{LineHistories}
use Rattle.con_procs.specs.Procs.{is_attached}
use Rattle.con_readers.specs.Words.Lines.{line_after}
use Rattle.con_readers.specs.Pieces.{front}
use Rattle.con_readers.specs.Reads.{answer_of, has_done, without}
use Rattle.con_readers.specs.Serving.{Served as Serving, is_done, served, served_line}
use Rattle.con_readers.specs.Words.Serving.{took_units, served_on}
use Rattle.con_readers.specs.Wants.{units_of}
use Rattle.con_readers.specs.declared.answer.Answer.{Answer}
use Rattle.con_readers.specs.declared.answer.Answer.TheVariants as answers
use Rattle.con_readers.specs.declared.open.OpenRead.{OpenRead}
use Rattle.con_readers.specs.declared.open.OpenRead.TheVariants as reads
use Rattle.con_records.specs.declared.record.Record.{Record}
use Rattle.con_machine.specs.State.{State, rest_in, noted_of, without_noted}
use Rattle.con_machine.specs.History.{run}
use Rattle.con_machine.specs.Reads.{answer_told, front_of, line_opened}
use Rattle.con_machine.specs.Words.Reads.{is_empty}
use Rattle.con_machine.specs.Outcome.{has_bit}
use Rattle.con_machine.specs.Step.{step}
use Rattle.con_laws.specs.Fates.{Begun, How, Served, Emptied, Interrupted, CutOff, Piece}
use Rattle.con_laws.specs.Walks.{Begin, pieces, last_begin}
use Rattle.con_laws.specs.Words.Answers.{opens}
use Rattle.con_laws.specs.AnswerWalks.{console_before, by_how, read_after, is_interruption, is_cut, was_interrupted, was_cut_off, is_aborted, is_closed}
use Rattle.con_machine.specs.declared.reads.noted.Noted.{Noted}
use Rattle.con_laws.proofs.FateLists.{log}
use Rattle.con_laws.proofs.Served.{UnitsPiece}
use Rattle.con_laws.proofs.Mine.{Fits, Right, Becomes, done_rest}
use Rattle.con_laws.proofs.Fated.{collects, collected_is, collect_by, collect_reply}

-- it failed
unfoldable pub is_failed : OpenRead → Bool
is_failed (reads.Done (answers.Fail why)) = true
is_failed (reads.Done (answers.Units us)) = false
is_failed (reads.Done (answers.Records rs)) = false
is_failed (reads.Line line) = false
is_failed (reads.Units n) = false
is_failed (reads.Records n) = false

-- ---- serving fails no read

on_failed : (p : ℕ) (al : List AliasList) (line line' : Cooked) (rs : List Record) (hs : LineHistories) (later : Serving) (masked returned : Bool) → is_failed later.read ≡ false
    → is_failed (served_on p al line line' rs hs later masked returned).read ≡ false
unfolding is_failed
on_failed p al line line' rs hs later true returned h = refl
on_failed p al line line' rs hs later false true h = refl
on_failed p al line line' rs hs later false false h = h

line_failed : (p : ℕ) (al : List AliasList) (line : Cooked) (rs : List Record) (hs : LineHistories) → is_failed (served_line p al line rs hs).read ≡ false
unfolding is_failed
line_failed p al line [] hs = refl
line_failed p al line (r ∷ rs) hs =
    on_failed p al line (line_after line r hs) rs hs (served_line p al (line_after line r hs) rs hs) (is_masked line.mask r) (is_return (key_of r))
    (line_failed p al (line_after line r hs) rs hs)

units_failed : (p n : ℕ) (rs : List Record) (hs : LineHistories) (us : List ℕ) → is_failed (took_units p n rs hs us).read ≡ false
unfolding is_failed
units_failed p n rs hs [] = refl
units_failed p n rs hs (u ∷ us) = refl

pub served_failed : (p : ℕ) (al : List AliasList) (read : OpenRead) (rs : List Record) (hs : LineHistories) → is_failed read ≡ false → is_failed (served p al read rs hs).read ≡ false
unfolding is_failed served
served_failed p al (reads.Line line) rs hs h = line_failed p al line rs hs
served_failed p al (reads.Units n) [] hs h = refl
served_failed p al (reads.Units n) (r ∷ rs) hs h = units_failed p n (r ∷ rs) hs (units_of n (r ∷ rs))
served_failed p al (reads.Records n) [] hs h = refl
served_failed p al (reads.Records n) (r ∷ rs) hs h = refl
served_failed p al (reads.Done a) rs hs h = h

-- ---- what a test says of a failure, and of no other answer

unfoldable lost : (Reply → Bool) → Answer → Bool
lost f (answers.Fail why) = f (replies.Fail why)
lost f (answers.Units us) = false
lost f (answers.Records rs) = false

unfoldable lost_in : (Reply → Bool) → OpenRead → Bool
lost_in f (reads.Done a) = lost f a
lost_in f (reads.Line line) = false
lost_in f (reads.Units n) = false
lost_in f (reads.Records n) = false

none_lost : (f : Reply → Bool) (r : OpenRead) → is_failed r ≡ false → lost_in f r ≡ false
unfolding lost_in lost is_failed
none_lost f (reads.Done (answers.Fail why)) h = absurd (true≢false h)
none_lost f (reads.Done (answers.Units us)) h = refl
none_lost f (reads.Done (answers.Records rs)) h = refl
none_lost f (reads.Line line) h = refl
none_lost f (reads.Units n) h = refl
none_lost f (reads.Records n) h = refl

done_lost : (f : Reply → Bool) (r : OpenRead) → is_done r ≡ true → lost f (answer_of r) ≡ lost_in f r
unfolding lost_in
done_lost f (reads.Done a) h = refl
done_lost f (reads.Line line) h = absurd (true≢false (sym h))
done_lost f (reads.Units n) h = absurd (true≢false (sym h))
done_lost f (reads.Records n) h = absurd (true≢false (sym h))

reply_lost : (f : Reply → Bool) → ((us : List ℕ) → f (replies.Units us) ≡ false) → ((rs : List Record) → f (replies.Records rs) ≡ false) → (s : State) (n : Option Noted) (a : Answer) → f (answer_told s n a).reply ≡ lost f a
unfolding lost
reply_lost f u r s None (answers.Units us) = u us
reply_lost f u r s (Some n) (answers.Units us) = u _
reply_lost f u r s n (answers.Records rs) = r rs
reply_lost f u r s n (answers.Fail why) = refl

-- ---- it fails exactly by what was done for it

or_none : (b : Bool) → b ≡ (b || false)
or_none true = refl
or_none false = refl

-- a test of ways, and the same test of failures
record Tells (f : Reply → Bool) (g : How → Bool) : Type 0 where
  struck : f (replies.Fail code.Aborted) ≡ g Interrupted
  cut : f (replies.Fail code.Closed) ≡ g CutOff
  served_by : (hs : LineHistories) (al : List AliasList) → g (Served hs al) ≡ false

Causes : (Reply → Bool) → (How → Bool) → ℕ → OpenRead → List Piece → Type 0
Causes f g p r xs = Right p r xs → is_failed r ≡ false → lost_in f (read_after p r xs) ≡ list_any (λ x. g x.0.how) xs

ended_so : (f : Reply → Bool) (g : How → Bool) (p : ℕ) (a : Answer) (b : Bool) (xs : List Piece) → lost f a ≡ b → Right p (reads.Done a) xs → lost_in f (read_after p (reads.Done a) xs) ≡ (b || list_any (λ x. g x.0.how) xs)
unfolding lost_in
ended_so f g p a b xs h right = rw (done_rest p (reads.Done a) xs refl right) (h ∙ or_none b)

one_cause : (f : Reply → Bool) (g : How → Bool) → Tells f g → (p : ℕ) (r : OpenRead) (how : How) (rs : List Record) (xs : List Piece) → Causes f g p (by_how p r how rs) xs → Fits p r how rs → Right p (by_how p r how rs) xs → is_failed r ≡ false
    → lost_in f (read_after p (by_how p r how rs) xs) ≡ (g how || list_any (λ x. g x.0.how) xs)
unfolding Causes Fits lost
one_cause f g t p r (Served hs al) rs xs ih fits right h = ih right (served_failed p al r rs hs h) ∙ ap (λ (b : Bool). b || list_any (λ x. g x.0.how) xs) (sym (t.served_by hs al))
one_cause f g t p r Emptied rs xs ih fits right h = absurd fits
one_cause f g t p r Interrupted rs xs ih fits right h = ended_so f g p (answers.Fail code.Aborted) (g Interrupted) xs t.struck right
one_cause f g t p r CutOff rs xs ih fits right h = ended_so f g p (answers.Fail code.Closed) (g CutOff) xs t.cut right

causes : (f : Reply → Bool) (g : How → Bool) → Tells f g → (p : ℕ) (xs : List Piece) (r : OpenRead) → Causes f g p r xs
unfolding Causes Right
causes f g t p [] r = λ right h. none_lost f r h
causes f g t p (x ∷ xs) r = λ right h. one_cause f g t p r x.0.how x.1 xs (causes f g t p xs (by_how p r x.0.how x.1)) right.0 right.1 h

-- ---- no read begins failed

text_failed : (a b c : Bool) (n : ℕ) (line : OpenRead) (us : List ℕ) → is_failed line ≡ false → is_failed (if a then (if b then reads.Done (answers.Units []) else if c then line else reads.Done (answers.Units us)) else (if b then reads.Done (answers.Units []) else reads.Units n)) ≡ false
unfolding is_failed
text_failed true true c n line us h = refl
text_failed true false true n line us h = h
text_failed true false false n line us h = refl
text_failed false true c n line us h = refl
text_failed false false c n line us h = refl

pub opens_failed : (s : State) (p : ℕ) (w : Wanted) → is_failed (opens s p w) ≡ false
unfolding opens is_failed
opens_failed s p (wanted.Read h n) = text_failed (has_bit s.mode 2) (n == 0) (is_empty (rest_in s.rests p h)) n (line_opened s p [] 0) (front_of n (rest_in s.rests p h)) refl
opens_failed s p (wanted.ReadWith h n initial mask) = text_failed (has_bit s.mode 2) (n == 0) (is_empty (rest_in s.rests p h)) n (line_opened s p initial mask) (front_of n (rest_in s.rests p h)) refl
opens_failed s p (wanted.ReadInput h n) = refl

-- ---- a Collect

fails_by : UnitsPiece → (f : Reply → Bool) (g : How → Bool) → Tells f g → ((us : List ℕ) → f (replies.Units us) ≡ false) → ((rs : List Record) → f (replies.Records rs) ≡ false) → (s : State) (h : List Entry) (p : ℕ) (b : Begin)
    → last_begin s h p ≡ Some b → is_attached (run s h).procs p ≡ true → has_done (run s h).reads p ≡ true → f (step (run s h) (actors.Client p) events.Collect).reply ≡ list_any (λ x. g x.0.how) (log (Begun b.place) (pieces s h))
unfolding Becomes Causes
fails_by w f g t fu fr s h p b last attached done =
    let c = collects w s h [] p b last attached in
    let u : State = run s h in
    let r : OpenRead = opens (console_before s (h ++ collect_by p ∷ []) b.place) p b.wanted in
    let xs : List Piece = log (Begun b.place) (pieces s h) in
    let is = collected_is u p (read_after p r xs) c.becomes.1 done in
    ap f (collect_reply u p attached ∙ is.1)
    ∙ reply_lost f fu fr (record u { reads = without u.reads p; noted = without_noted u.noted p }) (noted_of u.noted p) (answer_of (read_after p r xs))
    ∙ done_lost f (read_after p r xs) is.0
    ∙ causes f g t p xs r c.becomes.0 (opens_failed (console_before s (h ++ collect_by p ∷ []) b.place) p b.wanted)

pub aborted_by : ((p n : ℕ) (al : List AliasList) (rs : List Record) (hs : LineHistories) → is_done (served p al (reads.Units n) rs hs).read ≡ true
    → (served p al (reads.Units n) rs hs).read ≡ reads.Done (answers.Units (units_of n (front rs (served p al (reads.Units n) rs hs).records))))
    → (s : State) (h : List Entry) (p : ℕ) (b : Begin) → last_begin s h p ≡ Some b → is_attached (run s h).procs p ≡ true → has_done (run s h).reads p ≡ true
    → is_aborted (step (run s h) (actors.Client p) events.Collect).reply ≡ was_interrupted (Begun b.place) (pieces s h)
unfolding UnitsPiece log
aborted_by w s h p b last attached done = fails_by w is_aborted is_interruption (record { struck = refl; cut = refl; served_by = λ hs al. refl }) (λ us. refl) (λ rs. refl) s h p b last attached done

pub closed_by : ((p n : ℕ) (al : List AliasList) (rs : List Record) (hs : LineHistories) → is_done (served p al (reads.Units n) rs hs).read ≡ true
    → (served p al (reads.Units n) rs hs).read ≡ reads.Done (answers.Units (units_of n (front rs (served p al (reads.Units n) rs hs).records))))
    → (s : State) (h : List Entry) (p : ℕ) (b : Begin) → last_begin s h p ≡ Some b → is_attached (run s h).procs p ≡ true → has_done (run s h).reads p ≡ true
    → is_closed (step (run s h) (actors.Client p) events.Collect).reply ≡ was_cut_off (Begun b.place) (pieces s h)
unfolding UnitsPiece log
closed_by w s h p b last attached done = fails_by w is_closed is_cut (record { struck = refl; cut = refl; served_by = λ hs al. refl }) (λ us. refl) (λ rs. refl) s h p b last attached done

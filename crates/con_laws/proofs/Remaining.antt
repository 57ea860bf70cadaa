-- What is promised of what is left of a line, of a read's text, and of why it fails, is what the proofs walk.
use Rattle.std.proofs.Common.{◌≡◌, ℕ, Bool, List, [], ◌∷◌, ◌++◌, true, false, refl, ap, ◌∙◌, sym, subst, map, Option, Some, None, arith}
use Rattle.std.specs.Prelude.{◌==◌, ◌&&◌, ◌||◌, not, option_map, if◌then◌else◌}
use Rattle.std.specs.List.{Any, list_any, flat_map}
use Rattle.std.specs.Option.{option_map_or}
use Rattle.std.proofs.lemmas.Bool.Decides.{nat_tests}
use Rattle.std.proofs.lemmas.List.Folds.{Any-from_list_any, list_any-from_Any}
use Rattle.con_units.specs.declared.code.Code.{Code}
use Rattle.con_units.specs.declared.code.Code.TheVariants as code
use Rattle.con_cooked.specs.Cooked.{Moment}
use Rattle.con_cooked.specs.declared.cooked.Cooked.{Cooked}
use Rattle.con_events.specs.declared.actor.Actor.{Actor}
use Rattle.con_events.specs.declared.call.Call.{Call}
use Rattle.con_events.specs.declared.call.Call.TheVariants as calls
use Rattle.con_events.specs.declared.entry.Entry.{Entry}
use Rattle.con_events.specs.declared.event.Event.{Event}
use Rattle.con_events.specs.declared.event.Event.TheVariants as events
use Rattle.con_events.specs.declared.reply.Reply.{Reply}
use Rattle.con_events.specs.declared.reply.Reply.TheVariants as replies
use Rattle.con_readers.specs.Words.Lines.{line_answer}
use Rattle.con_readers.specs.declared.answer.Answer.TheVariants as answers
use Rattle.con_readers.specs.declared.open.OpenRead.{OpenRead}
use Rattle.con_readers.specs.declared.open.OpenRead.TheVariants as reads
use Rattle.con_records.specs.declared.record.Record.{Record}
use Rattle.con_machine.specs.State.{State, noted_of}
use Rattle.con_machine.specs.History.{run}
use Rattle.con_machine.specs.Step.{step, client_of}
use Rattle.con_machine.specs.Turns.{moved}
use Rattle.con_machine.specs.Client.{is_fail}
use Rattle.con_machine.specs.declared.reads.noted.Noted.{Noted}
use Rattle.con_laws.specs.Answers.{read_opened, EndsSo}
use Rattle.con_laws.specs.Words.Answers.{opens}
use Rattle.con_laws.specs.AnswerWalks.{is_interruption, is_cut, was_interrupted, was_cut_off, is_aborted, is_closed}
use Rattle.con_laws.specs.Fates.{Taker, How, Interrupted, CutOff, Piece, done_for}
use Rattle.con_laws.specs.Left.{LineLeaves}
use Rattle.con_laws.specs.Remains.{own, handle_of, at_once}
use Rattle.con_laws.specs.Remains as now
use Rattle.con_laws.specs.Rested.{takes, takes_in, ends, ends_in, has_units, is_line_of, IsLeft}
use Rattle.con_laws.specs.Rested as walked
use Rattle.con_laws.specs.Texts.{lines_at}
use Rattle.con_laws.specs.Texts as texts
use Rattle.con_laws.specs.TextWalks.{presses_of, aliases_after, AnswersLine, AnswersText}
use Rattle.con_laws.proofs.Entries.{step_opens}

-- ---- what is left of a line

same_number : (a b : ℕ) → (a == b) ≡ true → a ≡ b
same_number a b e = grind (arith, nat_tests)

once_same : (r : OpenRead) → walked.at_once r ≡ at_once (Some r)
once_same (reads.Done (answers.Units units)) = refl
once_same (reads.Done (answers.Records records)) = refl
once_same (reads.Done (answers.Fail why)) = refl
once_same (reads.Line line) = refl
once_same (reads.Units n) = refl
once_same (reads.Records n) = refl

-- of an event of a client, which is p or not
takes_same : (s : State) (a : Actor) (p hd : ℕ) (e : Event)
    → takes s (client_of a) p hd e (step s a e).reply ≡ (if client_of a == p then now.takes p hd s e (step s a e).reply else [])
takes_same s a p hd (events.Begin w) = by (client_of a == p) (is_fail (step s a (events.Begin w)).reply) refl refl
  where
    test : (b : Bool) (xs ys : List ℕ) → xs ≡ ys → (if b then xs else []) ≡ (if b then ys else [])
    test true xs ys e = e
    test false xs ys e = refl

    never : (b : Bool) (xs ys : List ℕ) → (if b && false then xs else []) ≡ (if b && false then ys else [])
    never true xs ys = refl
    never false xs ys = refl

    by : (b fail : Bool) → (client_of a == p) ≡ b → is_fail (step s a (events.Begin w)).reply ≡ fail
        → (if b && ((handle_of w == hd) && not fail) then walked.at_once (opens s (client_of a) w) else [])
        ≡ (if b then (if (handle_of w == hd) && not fail then at_once (read_opened s p w) else []) else [])
    by true true is fails = never (handle_of w == hd) (walked.at_once (opens s (client_of a) w)) (at_once (read_opened s p w))
    by true false is done = test ((handle_of w == hd) && true) (walked.at_once (opens s (client_of a) w)) (at_once (read_opened s p w))
        (once_same (opens s (client_of a) w) ∙ (ap (λ (o : Option OpenRead). at_once o) (sym (step_opens s a w done))
        ∙ ap (λ (q : ℕ). at_once (read_opened s q w)) (same_number (client_of a) p is)))
    by false fail is fails = refl
takes_same s a p hd e = by (client_of a == p)
  where
    by : (b : Bool) → ◌≡◌ {A = List ℕ} [] (if b then [] else [])
    by true = refl
    by false = refl

all_takes : (s : State) (p hd : ℕ) (h : List Entry) → takes_in s p hd h ≡ flat_map (λ x. now.takes p hd x.0 x.1 x.2) (own s p h)
unfolding own
all_takes s p hd [] = refl
all_takes s p hd (x ∷ xs) =
    ap (λ (us : List ℕ). us ++ takes_in (moved s x) p hd xs) (takes_same s x.actor p hd x.event)
    ∙ (ap (λ (us : List ℕ). (if client_of x.actor == p then now.takes p hd s x.event (step s x.actor x.event).reply else []) ++ us) (all_takes (moved s x) p hd xs)
    ∙ by (client_of x.actor == p))
  where
    by : (b : Bool) → (if b then now.takes p hd s x.event (step s x.actor x.event).reply else []) ++ flat_map (λ x. now.takes p hd x.0 x.1 x.2) (own (moved s x) p xs)
        ≡ flat_map (λ x. now.takes p hd x.0 x.1 x.2) (if b then (s, x.event, (step s x.actor x.event).reply) ∷ own (moved s x) p xs else own (moved s x) p xs)
    by true = refl
    by false = refl

none_if : (b : Bool) → false ≡ (if b then false else false)
none_if true = refl
none_if false = refl

and_if : (b c : Bool) → (b && c) ≡ (if b then c else false)
and_if true c = refl
and_if false c = refl

line_same : (hd : ℕ) (n : Option Noted) → (is_line_of hd n && true) ≡ option_map_or (λ m. m.handle == hd) n false
line_same hd None = refl
line_same hd (Some n) = by (n.handle == hd)
  where
    by : (b : Bool) → (b && true) ≡ b
    by true = refl
    by false = refl

no_line : (b : Bool) → (b && false) ≡ false
no_line true = refl
no_line false = refl

ends_same : (s : State) (c p hd : ℕ) (e : Event) (reply : Reply) → ends s c p hd e reply ≡ (if c == p then now.ends p hd s e reply else false)
ends_same s c p hd (events.Call call) reply = by_call call
  where
    by_call : (x : Call) → ends s c p hd (events.Call x) reply ≡ (if c == p then now.ends p hd s (events.Call x) reply else false)
    by_call (calls.Close h) = and_if (c == p) _
    by_call x = none_if (c == p)
ends_same s c p hd events.Collect reply = by_reply reply
  where
    at : (r : Reply) (b : Bool) → (c == p) ≡ b → (b && (is_line_of hd (noted_of s.noted c) && has_units r)) ≡ (if b then is_line_of hd (noted_of s.noted p) && has_units r else false)
    at r true is = ap (λ (q : ℕ). is_line_of hd (noted_of s.noted q) && has_units r) (same_number c p is)
    at r false is = refl

    if_same : (b x y : Bool) → x ≡ y → (if b then x else false) ≡ (if b then y else false)
    if_same true x y e = e
    if_same false x y e = refl

    by_reply : (r : Reply) → ends s c p hd events.Collect r ≡ (if c == p then now.ends p hd s events.Collect r else false)
    by_reply (replies.Units units) = at (replies.Units units) (c == p) refl ∙ if_same (c == p) _ _ (line_same hd (noted_of s.noted p))
    by_reply r = at r (c == p) refl ∙ if_same (c == p) _ _ (no_line (is_line_of hd (noted_of s.noted p)))
ends_same s c p hd (events.Exit status) reply = and_if (c == p) _
ends_same s c p hd e reply = none_if (c == p)

all_ends : (s : State) (p hd : ℕ) (h : List Entry) → ends_in s p hd h ≡ list_any (λ x. now.ends p hd x.0 x.1 x.2) (own s p h)
unfolding own
all_ends s p hd [] = refl
all_ends s p hd (x ∷ xs) =
    ap (λ (b : Bool). b || ends_in (moved s x) p hd xs) (ends_same s (client_of x.actor) p hd x.event (step s x.actor x.event).reply)
    ∙ (ap (λ (b : Bool). (if client_of x.actor == p then now.ends p hd s x.event (step s x.actor x.event).reply else false) || b) (all_ends (moved s x) p hd xs)
    ∙ by (client_of x.actor == p))
  where
    by : (b : Bool) → ((if b then now.ends p hd s x.event (step s x.actor x.event).reply else false) || list_any (λ x. now.ends p hd x.0 x.1 x.2) (own (moved s x) p xs))
        ≡ list_any (λ x. now.ends p hd x.0 x.1 x.2) (if b then (s, x.event, (step s x.actor x.event).reply) ∷ own (moved s x) p xs else own (moved s x) p xs)
    by true = refl
    by false = refl

leaves_so : (s : State) (p hd : ℕ) (reply : Reply) (rest : List ℕ) → LineLeaves s p hd reply rest → now.LineLeaves s p hd reply rest
leaves_so s p hd reply rest k = (
  ap (λ (o : Option Noted). option_map (λ n. n.handle) o) k.noted ∙ ap (λ (n : ℕ). Some n) k.handle,
  k.units,
  k.told,
  k.answer ∙ ap (λ (us : List ℕ). answers.Units us) k.whole,
)

pub left_so : (s : State) (h : List Entry) (p hd : ℕ) (rest : List ℕ) → IsLeft s h p hd rest → now.IsLeft s h p hd rest
left_so s h p hd rest k = record {
  before = k.before;
  last = k.last;
  later = k.later;
  is = k.is;
  client = k.client;
  collect = k.collect;
  left = k.left;
  leaves = leaves_so (run s k.before) p hd (step (run s k.before) k.last.actor k.last.event).reply k.left k.leaves;
  goes_on = sym (all_ends (moved (run s k.before) k.last) p hd k.later) ∙ k.goes_on;
  once = k.once ∙ ap (λ (us : List ℕ). us ++ rest) (all_takes (moved (run s k.before) k.last) p hd k.later);
}

-- ---- a text

presses_same : (program : List ℕ) (ps : List Piece) → presses_of program ps ≡ texts.presses_of program ps
presses_same program [] = refl
presses_same program (x ∷ xs) = ap (λ (ms : List Moment). map (λ r. (let m : Moment = record { pressed = r; lines = lines_at program x.0.how } in m)) x.1 ++ ms) (presses_same program xs)

line_so : (line : Cooked) (n : ℕ) (ps : List Piece) (rs : List Record) (us : List ℕ) → AnswersLine line n ps rs us → texts.AnswersLine line n ps rs us
line_so line n ps rs us k = record {
  before = k.ended.before;
  last = k.ended.last;
  took = k.ended.took;
  goes = k.ended.goes;
  ends = k.ended.ends;
  text = k.text;
  text' = k.ended.text' ∙ ap (λ (ms : List Moment). line_answer (record line { presses = line.presses ++ ms }) (aliases_after [] ps)) (presses_same line.program ps);
  told = k.told;
}

text_of : (r : OpenRead) (n : ℕ) (ps : List Piece) (rs : List Record) (us : List ℕ) → AnswersText r n ps rs us → texts.AnswersText (Some r) n ps rs us
text_of (reads.Line line) n ps rs us k = line_so line n ps rs us k
text_of (reads.Units m) n ps rs us k = k
text_of (reads.Done (answers.Units units)) n ps rs us k = k
text_of r n ps rs us k = absurd k

pub text_so : (o : Option OpenRead) (r : OpenRead) (n : ℕ) (ps : List Piece) (rs : List Record) (us : List ℕ) → o ≡ Some r → AnswersText r n ps rs us → texts.AnswersText o n ps rs us
text_so o r n ps rs us is k = subst (λ (x : Option OpenRead). texts.AnswersText x n ps rs us) (sym is) (text_of r n ps rs us k)

-- ---- why a read fails

tested : (test : How → Bool) (how : How) → ((x : How) → test x ≡ true → x ≡ how) → (ps : List Piece) → list_any (λ p. test p.0.how) ps ≡ true → Any (λ p. p.0.how ≡ how) ps
tested test how is ps e = let a = Any-from_list_any (λ (p : Piece). test p.0.how) ps e in (a.0, a.1, a.2, a.3, is a.1.0.how a.4)

passes : (test : How → Bool) (how : How) → test how ≡ true → (ps : List Piece) → Any (λ p. p.0.how ≡ how) ps → list_any (λ p. test p.0.how) ps ≡ true
passes test how e ps a = list_any-from_Any (λ (p : Piece). test p.0.how) ps (a.0, a.1, a.2, a.3, ap test a.4 ∙ e)

ends_so : (test : How → Bool) (how : How) (told : Reply → Bool) (why : Code) (reply : Reply) (ps : List Piece) → ((x : How) → test x ≡ true → x ≡ how) → test how ≡ true
    → ((r : Reply) → told r ≡ true → r ≡ replies.Fail why) → told (replies.Fail why) ≡ true → told reply ≡ list_any (λ p. test p.0.how) ps → EndsSo how why reply ps
ends_so test how told why reply ps is e there f same =
    (λ r. tested test how is ps (sym same ∙ (ap told r ∙ f)), λ a. there reply (same ∙ passes test how e ps a))

interruption_is : (x : How) → is_interruption x ≡ true → x ≡ Interrupted
interruption_is Interrupted e = refl
interruption_is x e = absurd (cc)

cut_is : (x : How) → is_cut x ≡ true → x ≡ CutOff
cut_is CutOff e = refl
cut_is x e = absurd (cc)

aborted_is : (r : Reply) → is_aborted r ≡ true → r ≡ replies.Fail code.Aborted
aborted_is (replies.Fail code.Aborted) e = refl
aborted_is r e = absurd (cc)

closed_is : (r : Reply) → is_closed r ≡ true → r ≡ replies.Fail code.Closed
closed_is (replies.Fail code.Closed) e = refl
closed_is r e = absurd (cc)

pub aborted_so : (t : Taker) (ps : List Piece) (reply : Reply) → is_aborted reply ≡ was_interrupted t ps → EndsSo Interrupted code.Aborted reply (done_for t ps)
aborted_so t ps reply e = ends_so is_interruption Interrupted is_aborted code.Aborted reply (done_for t ps) interruption_is refl aborted_is refl e

pub closed_so : (t : Taker) (ps : List Piece) (reply : Reply) → is_closed reply ≡ was_cut_off t ps → EndsSo CutOff code.Closed reply (done_for t ps)
closed_so t ps reply e = ends_so is_cut CutOff is_closed code.Closed reply (done_for t ps) cut_is refl closed_is refl e

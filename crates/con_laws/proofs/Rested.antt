-- What is left for a handle is of the last line read of it, and each unit of it is answered once.
use Rattle.std.proofs.Common.{◌≡◌, ℕ, Bool, true, false, not, ◌&&◌, ◌⊎◌, inl, inr, List, [], ◌∷◌, ◌++◌, Option, Some, None, Result, Ok, Err, refl, sym, ap, subst, ◌∙◌, true≢false, append_assoc}
use Rattle.std.specs.Prelude.{◌==◌, ◌||◌, slice_get, if◌then◌else◌}
use Rattle.std.proofs.lemmas.Bool.{eqb-true, eq-eqb}
use Rattle.std.proofs.lemmas.List.{take-append-drop}
use Rattle.con_units.specs.declared.code.Code.{Code}
use Rattle.con_units.specs.declared.code.Code.TheVariants as code
use Rattle.con_events.specs.declared.call.Call.{Call}
use Rattle.con_events.specs.declared.call.Call.TheVariants as calls
use Rattle.con_events.specs.declared.entry.Entry.{Entry}
use Rattle.con_events.specs.declared.event.Event.{Event}
use Rattle.con_events.specs.declared.event.Event.TheVariants as events
use Rattle.con_events.specs.declared.event.Wanted.{Wanted}
use Rattle.con_events.specs.declared.event.Wanted.TheVariants as wanted
use Rattle.con_events.specs.declared.reply.Reply.TheVariants as replies
use Rattle.con_handles.specs.declared.handle.Object.{Object}
use Rattle.con_readers.specs.Reads.{answer_in, without, place_of}
use Rattle.con_readers.specs.declared.answer.Answer.{Answer}
use Rattle.con_readers.specs.declared.answer.Answer.TheVariants as answers
use Rattle.con_readers.specs.declared.open.OpenRead.TheVariants as reads
use Rattle.con_screens.specs.Resize.{all_resized}
use Rattle.con_machine.specs.State.{State, noted_of, without_noted, is_rest_of, rest_in, with_rest}
use Rattle.con_machine.specs.Words.State.{is_rest_by, without_rest, without_rests}
use Rattle.con_machine.specs.Outcome.{Outcome, refused, done, by_answer, has_bit}
use Rattle.con_machine.specs.Words.Outcome.{with_object}
use Rattle.con_machine.specs.Words.HandleCalls.{owned as object_owned, handle_closed}
use Rattle.con_laws.specs.Words.Answers.{opens}
use Rattle.con_machine.specs.Call.{called}
use Rattle.con_machine.specs.Closing.{hung_up}
use Rattle.con_machine.specs.EventLaws.{Core, call_walk, fed_walk, quiet_walk, hung_walk, size_core, finished_walk}
use Rattle.con_machine.specs.History.{run}
use Rattle.con_laws.specs.Left.{LineLeaves}
use Rattle.con_laws.specs.Remains.{handle_of}
use Rattle.con_machine.specs.Painting.{painted}
use Rattle.con_machine.specs.Reads.{began as read_began, began_line, collected, took_ctrl, left, answer_told, line_front, front_of, back_of, answered_with, with_read, line_begun, line_opened}
use Rattle.con_machine.specs.Words.Reads.{began_units, line_cut, part_told, part_left, rest_answered, history_used, read_answer, records_answer, is_empty, line_read, units_read}
use Rattle.con_laws.specs.Rested.{takes, takes_in, at_once, ends, ends_in, closes, is_line_of, IsLeft}
use Rattle.con_machine.specs.Step.{step, effect, finished, is_outside, client_of}
use Rattle.con_machine.specs.Terminal.{fed, quiet, resized}
use Rattle.con_machine.specs.Turns.{moved}
use Rattle.con_machine.specs.declared.reads.noted.Noted.{Noted}
use Rattle.con_machine.specs.declared.reads.rest.Rest.{Rest}
use Rattle.con_laws.proofs.Lefts.{and_parts_of, begun_same, stay, go, found_own, whole_text}

-- ---- tests

and_no : (a : Bool) → (a && false) ≡ false
and_no true = refl
and_no false = refl

never : (a b : Bool) → (a && (b && false)) ≡ false
never true b = and_no b
never false b = refl

not_first : (a b : Bool) → (a && (false && b)) ≡ false
not_first true b = refl
not_first false b = refl

not_both : (a b : Bool) → (a && b) ≡ false → (a && (b && true)) ≡ false
not_both true true e = absurd (true≢false e)
not_both true false e = refl
not_both false b e = refl

are_both : (a b : Bool) → (a && b) ≡ true → (a && (b && true)) ≡ true
are_both true true e = refl
are_both true false e = absurd (true≢false (sym e))
are_both false b e = absurd (true≢false (sym e))

neither : (a b : Bool) → a ≡ false → b ≡ false → (a || b) ≡ false
neither a b e f = rw (e, f) refl

chosen : {A : Type 0} (b : Bool) (x y : A) → b ≡ true → (if b then x else y) ≡ x
chosen b x y e = rw e refl

other_one : {A : Type 0} (b : Bool) (x y : A) → b ≡ false → (if b then x else y) ≡ y
other_one b x y e = rw e refl

nothing : (b : Bool) (us : List ℕ) → us ≡ [] → (if b then us else []) ≡ []
nothing true us e = e
nothing false us e = refl

-- ---- lists of rests

own_by : (us : List ℕ) (r : Rest) (rs : List Rest) (p h : ℕ) (b : Bool) → is_rest_of p h r ≡ b
    → (is_empty (rest_in rs p h) ≡ false → rest_in (with_rest us rs p h) p h ≡ us)
    → is_empty (rest_in (r ∷ rs) p h) ≡ false → rest_in (with_rest us (r ∷ rs) p h) p h ≡ us
own_by us r rs p h true e ih some = rw e (rw e refl)
own_by us r rs p h false e ih some = rw e (rw e (ih (sym (ap is_empty (skipped r rs p h e)) ∙ some)))
  where
    skipped : (r : Rest) (rs : List Rest) (p h : ℕ) → is_rest_of p h r ≡ false → rest_in (r ∷ rs) p h ≡ rest_in rs p h
    skipped r rs p h e = rw e refl

own_set : (us : List ℕ) (rs : List Rest) (p h : ℕ) → is_empty (rest_in rs p h) ≡ false → rest_in (with_rest us rs p h) p h ≡ us
own_set us [] p h some = absurd (true≢false some)
own_set us (r ∷ rs) p h some = own_by us r rs p h (is_rest_of p h r) refl (own_set us rs p h) some

abbrev Either : List ℕ → List Rest → ℕ → ℕ → Type 0
Either us rs p h = (rest_in (with_rest us rs p h) p h ≡ us) ⊎ (rest_in (with_rest us rs p h) p h ≡ [])

either_by : (us : List ℕ) (r : Rest) (rs : List Rest) (p h : ℕ) (b : Bool) → is_rest_of p h r ≡ b → Either us rs p h → Either us (r ∷ rs) p h
either_by us r rs p h true e ih = inl (rw e (rw e refl))
either_by us r rs p h false e (inl k) = inl (rw e (rw e k))
either_by us r rs p h false e (inr k) = inr (rw e (rw e k))

either : (us : List ℕ) (rs : List Rest) (p h : ℕ) → Either us rs p h
either us [] p h = inr refl
either us (r ∷ rs) p h = either_by us r rs p h (is_rest_of p h r) refl (either us rs p h)

-- a rest of one handle is none of another
is_other : (q h p hd : ℕ) (r : Rest) → ((q == p) && (h == hd)) ≡ false → is_rest_of p hd r ≡ true → is_rest_of q h r ≡ false
is_other q h p hd r e is = by (is_rest_of q h r) refl
  where
    by : (b : Bool) → is_rest_of q h r ≡ b → is_rest_of q h r ≡ false
    by false one = one
    by true one =
        let x = and_parts_of (r.process == q) (r.handle == h) one in
        let y = and_parts_of (r.process == p) (r.handle == hd) is in
        let ep : (q == p) ≡ true = eq-eqb q p (sym (eqb-true r.process q x.0) ∙ eqb-true r.process p y.0) in
        let eh : (h == hd) ≡ true = eq-eqb h hd (sym (eqb-true r.handle h x.1) ∙ eqb-true r.handle hd y.1) in
        absurd (true≢false (sym (ap (λ (b : Bool). b && (h == hd)) ep ∙ eh) ∙ e))

other_by : (us : List ℕ) (r : Rest) (rs : List Rest) (q h p hd : ℕ) (a b : Bool) → is_rest_of q h r ≡ a → is_rest_of p hd r ≡ b
    → (is_rest_of p hd r ≡ true → is_rest_of q h r ≡ false)
    → rest_in (with_rest us rs q h) p hd ≡ rest_in rs p hd → rest_in (with_rest us (r ∷ rs) q h) p hd ≡ rest_in (r ∷ rs) p hd
other_by us r rs q h p hd true true ea eb apart ih = absurd (true≢false (sym ea ∙ apart eb))
other_by us r rs q h p hd true false ea eb apart ih = rw ea (rw eb refl)
other_by us r rs q h p hd false true ea eb apart ih = rw ea (rw eb refl)
other_by us r rs q h p hd false false ea eb apart ih = rw ea (rw eb ih)

other_set : (us : List ℕ) (rs : List Rest) (q h p hd : ℕ) → ((q == p) && (h == hd)) ≡ false → rest_in (with_rest us rs q h) p hd ≡ rest_in rs p hd
other_set us [] q h p hd e = refl
other_set us (r ∷ rs) q h p hd e = other_by us r rs q h p hd (is_rest_of q h r) (is_rest_of p hd r) refl refl (is_other q h p hd r e)
    (other_set us rs q h p hd e)

closed_own : (rs : List Rest) (p h : ℕ) → rest_in (without_rest rs p h) p h ≡ []
closed_own rs p h = go (λ r. not (is_rest_of p h r)) rs p h (λ r is. ap not is)

closed_other : (rs : List Rest) (q h p hd : ℕ) → ((q == p) && (h == hd)) ≡ false → rest_in (without_rest rs q h) p hd ≡ rest_in rs p hd
closed_other rs q h p hd e = stay (λ r. not (is_rest_of q h r)) rs p hd (λ r is. ap not (is_other q h p hd r e is))

left_own : (rs : List Rest) (p hd : ℕ) → rest_in (without_rests rs p) p hd ≡ []
left_own rs p hd = go (λ r. not (is_rest_by p r)) rs p hd (λ r is. ap not (and_parts_of (r.process == p) (r.handle == hd) is).0)

left_other : (rs : List Rest) (q p hd : ℕ) → (q == p) ≡ false → rest_in (without_rests rs q) p hd ≡ rest_in rs p hd
left_other rs q p hd e = stay (λ r. not (is_rest_by q r)) rs p hd
    (λ r is. ap not (by r (is_rest_by q r) refl (and_parts_of (r.process == p) (r.handle == hd) is).0))
  where
    by : (r : Rest) (b : Bool) → is_rest_by q r ≡ b → (r.process == p) ≡ true → is_rest_by q r ≡ false
    by r false one is = one
    by r true one is = absurd (true≢false (sym (eq-eqb q p (sym (eqb-true r.process q one) ∙ eqb-true r.process p is)) ∙ e))

-- ---- an event: it is gone, or is taken from, or a line leaves another

abbrev Stays : State → ℕ → ℕ → ℕ → Event → Outcome → Type 0
Stays s c p hd e o = (rest_in s.rests p hd ≡ takes s c p hd e o.reply ++ rest_in o.after.rests p hd) × (ends s c p hd e o.reply ≡ false)

abbrev Comes : State → ℕ → ℕ → ℕ → Event → Outcome → Type 0
Comes s c p hd e o = (c ≡ p) × ((e ≡ events.Collect) × LineLeaves s p hd o.reply (rest_in o.after.rests p hd))

abbrev Going : State → ℕ → ℕ → ℕ → Event → Outcome → Type 0
Going s c p hd e o = (rest_in o.after.rests p hd ≡ []) ⊎ (Stays s c p hd e o ⊎ Comes s c p hd e o)

-- a handle is closed
close_done : (s : State) (c p hd h : ℕ) (o : Object) (b : Bool) → ((c == p) && (h == hd)) ≡ b
    → Going s c p hd (events.Call (calls.Close h)) (done (handle_closed s c h o))
close_done s c p hd h o true e =
    let parts = and_parts_of (c == p) (h == hd) e in
    inl (ap (λ (q : ℕ). rest_in (without_rest s.rests c h) q hd) (sym (eqb-true c p parts.0))
    ∙ ap (λ (k : ℕ). rest_in (without_rest s.rests c h) c k) (sym (eqb-true h hd parts.1)) ∙ closed_own s.rests c h)
close_done s c p hd h o false e = inr (inl (sym (closed_other s.rests c h p hd e), not_both (c == p) (h == hd) e))

close_going : (s : State) (c p hd h : ℕ) (g : Result Object Code)
    → Going s c p hd (events.Call (calls.Close h)) (with_object s g (λ o. done (handle_closed s c h o)))
close_going s c p hd h (Err why) = inr (inl (refl, never (c == p) (h == hd)))
close_going s c p hd h (Ok o) = close_done s c p hd h o ((c == p) && (h == hd)) refl

call_going : (s : State) (c p hd : ℕ) (x : Call) → Going s c p hd (events.Call x) (called s c x)
unfolding called
call_going s c p hd (calls.Close h) = close_going s c p hd h (object_owned s c h)
call_going s c p hd x = inr (inl (ap (λ (rs : List Rest). rest_in rs p hd) (sym ((call_walk s c x).rests refl)), refl))

-- a Begin
begin_same : (s : State) (c p hd : ℕ) (w : Wanted) (t : State) → rest_in t.rests p hd ≡ rest_in s.rests p hd → at_once (opens s c w) ≡ []
    → Going s c p hd (events.Begin w) (done t)
begin_same s c p hd w t e none =
    inr (inl (
      sym (ap (λ (us : List ℕ). us ++ rest_in t.rests p hd) (nothing ((c == p) && ((handle_of w == hd) && true)) (at_once (opens s c w)) none)
          ∙ e),
      refl,
    ))

rest_taken : (s : State) (c p hd h n : ℕ) (w : Wanted) (t : State) (b : Bool) → handle_of w ≡ h
    → opens s c w ≡ reads.Done (answers.Units (front_of n (rest_in s.rests c h)))
    → t.rests ≡ with_rest (back_of n (rest_in s.rests c h)) s.rests c h → is_empty (rest_in s.rests c h) ≡ false → ((c == p) && (h == hd)) ≡ b
    → Going s c p hd (events.Begin w) (done t)
rest_taken s c p hd h n w t true handle opened now some e =
    let parts = and_parts_of (c == p) (h == hd) e in
    let ep : c ≡ p = eqb-true c p parts.0 in
    let eh : h ≡ hd = eqb-true h hd parts.1 in
    let text : List ℕ = rest_in s.rests c h in
    let old : rest_in s.rests p hd ≡ text = ap (λ (q : ℕ). rest_in s.rests q hd) (sym ep) ∙ ap (λ (k : ℕ). rest_in s.rests c k) (sym eh) in
    let new : rest_in t.rests p hd ≡ back_of n text =
    ap (λ (rs : List Rest). rest_in rs p hd) now ∙ ap (λ (q : ℕ). rest_in (with_rest (back_of n text) s.rests c h) q hd) (sym ep)
    ∙ ap (λ (k : ℕ). rest_in (with_rest (back_of n text) s.rests c h) c k) (sym eh) ∙ own_set (back_of n text) s.rests c h some in
    let test : ((c == p) && ((handle_of w == hd) && true)) ≡ true = ap (λ (k : ℕ). (c == p) && ((k == hd) && true)) handle ∙ are_both (c == p) (h == hd) e in
    let took : takes s c p hd (events.Begin w) replies.Done ≡ front_of n text = chosen ((c == p) && ((handle_of w == hd) && true))
    (at_once (opens s c w)) [] test ∙ ap at_once opened in
    inr (inl (
      old ∙ sym (take-append-drop (line_front n text) text)
          ∙ sym (ap (λ (us : List ℕ). us ++ rest_in t.rests p hd) took ∙ ap (λ (us : List ℕ). front_of n text ++ us) new),
      refl,
    ))
rest_taken s c p hd h n w t false handle opened now some e =
    let same : rest_in t.rests p hd ≡ rest_in s.rests p hd = ap (λ (rs : List Rest). rest_in rs p hd) now
    ∙ other_set (back_of n (rest_in s.rests c h)) s.rests c h p hd e in
    let test : ((c == p) && ((handle_of w == hd) && true)) ≡ false = ap (λ (k : ℕ). (c == p) && ((k == hd) && true)) handle ∙ not_both (c == p) (h == hd) e in
    let took : takes s c p hd (events.Begin w) replies.Done ≡ [] = other_one ((c == p) && ((handle_of w == hd) && true)) (at_once (opens s c w)) [] test in
    inr (inl (sym (ap (λ (us : List ℕ). us ++ rest_in t.rests p hd) took ∙ same), refl))

line_by : (s : State) (c p hd h n : ℕ) (w : Wanted) (initial : List ℕ) (mask : ℕ) (m b : Bool) → handle_of w ≡ h → is_empty (rest_in s.rests c h) ≡ b
    → opens s c w ≡ (if m then reads.Done (answers.Units []) else if b then line_opened s c initial mask else reads.Done
    (answers.Units (front_of n (rest_in s.rests c h))))
    → Going s c p hd (events.Begin w) (done (if m then answered_with (history_used s c) c [] else if b then line_begun
    (history_used s c) c h n initial mask else rest_answered (history_used s c) c h n (rest_in s.rests c h)))
line_by s c p hd h n w initial mask true b handle some opened = begin_same s c p hd w (answered_with (history_used s c) c []) refl (ap at_once opened)
line_by s c p hd h n w initial mask false true handle some opened = begin_same s c p hd w (line_begun (history_used s c) c h n initial mask)
    (begun_same s.rests c h p hd) (ap at_once opened)
line_by s c p hd h n w initial mask false false handle some opened = rest_taken s c p hd h n w (rest_answered (history_used s c) c h n (rest_in s.rests c h))
    ((c == p) && (h == hd)) handle opened refl some refl

units_by : (s : State) (c p hd n : ℕ) (w : Wanted) (m : Bool) → opens s c w ≡ (if m then reads.Done (answers.Units []) else reads.Units n)
    → Going s c p hd (events.Begin w) (done (if m then answered_with s c [] else with_read s c (reads.Units n)))
units_by s c p hd n w true opened = begin_same s c p hd w (answered_with s c []) refl (ap at_once opened)
units_by s c p hd n w false opened = begin_same s c p hd w (with_read s c (reads.Units n)) refl (ap at_once opened)

text_by : (s : State) (c p hd h n : ℕ) (w : Wanted) (initial : List ℕ) (mask : ℕ) (a : Bool) → handle_of w ≡ h
    → opens s c w ≡ (if a then line_read s c n (rest_in s.rests c h) initial mask else units_read n)
    → Going s c p hd (events.Begin w) (done (if a then began_line (history_used s c) c h n initial mask else began_units s c n))
text_by s c p hd h n w initial mask true handle opened = line_by s c p hd h n w initial mask (n == 0) (is_empty (rest_in s.rests c h)) handle refl opened
text_by s c p hd h n w initial mask false handle opened = units_by s c p hd n w (n == 0) opened

by_read_answer : (s : State) (c p hd : ℕ) (w : Wanted) (r : Result (Unit {0}) Code) (t : State) → Going s c p hd (events.Begin w) (done t)
    → Going s c p hd (events.Begin w) (by_answer s r t)
by_read_answer s c p hd w (Err why) t h =
    inr (inl (
      sym (ap (λ (us : List ℕ). us ++ rest_in s.rests p hd)
          (other_one ((c == p) && ((handle_of w == hd) && false)) (at_once (opens s c w)) [] (never (c == p) (handle_of w == hd)))),
      refl,
    ))
by_read_answer s c p hd w (Ok u) t h = h

begin_going : (s : State) (c p hd : ℕ) (w : Wanted) → Going s c p hd (events.Begin w) (read_began s c w)
unfolding read_began opens
begin_going s c p hd (wanted.Read h n) = by_read_answer s c p hd (wanted.Read h n)
    (read_answer s c h n []) _ (text_by s c p hd h n (wanted.Read h n) [] 0 (has_bit s.mode 2) refl refl)
begin_going s c p hd (wanted.ReadWith h n initial mask) = by_read_answer s c p hd (wanted.ReadWith h n initial mask)
    (read_answer s c h n initial) _ (text_by s c p hd h n (wanted.ReadWith h n initial mask) initial mask (has_bit s.mode 2) refl refl)
begin_going s c p hd (wanted.ReadInput h n) = by_read_answer s c p hd (wanted.ReadInput h n)
    (records_answer s c h n) _ (begin_same s c p hd (wanted.ReadInput h n) (with_read s c (reads.Records n)) refl refl)

-- a Collect
cut_going : (s : State) (c p hd : ℕ) (n : Noted) (text : List ℕ) (u : State) (b : Bool) → noted_of s.noted c ≡ Some n
    → answer_in (slice_get s.reads (place_of s.reads c)) ≡ answers.Units text
    → u.rests ≡ s.rests → ((c == p) && (n.handle == hd)) ≡ b → Going s c p hd events.Collect (line_cut u n text)
cut_going s c p hd n text u true noted answer same e =
    let parts = and_parts_of (c == p) (n.handle == hd) e in
    let cp : c ≡ p = eqb-true c p parts.0 in
    let eh : n.handle ≡ hd = eqb-true n.handle hd parts.1 in
    let np : n.process ≡ p = found_own s.noted c n noted ∙ cp in
    let rs : List Rest = with_rest (part_left n text) u.rests n.process n.handle in
    let here : rest_in rs p hd ≡ rest_in rs n.process n.handle = ap (λ (q : ℕ). rest_in rs q hd) (sym np) ∙ ap (λ (k : ℕ). rest_in rs n.process k) (sym eh) in
    elim (either (part_left n text) u.rests n.process n.handle) [
      | inr none ↦ inl (here ∙ none)
      | inl is ↦ inr (inr (
        cp,
        (
          refl,
          record {
            note = n;
            noted = subst (λ (q : ℕ). noted_of s.noted q ≡ Some n) cp noted;
            handle = eh;
            text = text;
            answer = subst (λ (q : ℕ). answer_in (slice_get s.reads (place_of s.reads q)) ≡ answers.Units text) cp answer;
            units = part_told n text;
            told = refl;
            whole = whole_text n text n.woken refl ∙ ap (λ (us : List ℕ). part_told n text ++ us) (sym (here ∙ is));
          },
        ),
      ))
    ]
cut_going s c p hd n text u false noted answer same e =
    let np : ((n.process == p) && (n.handle == hd)) ≡ false = ap (λ (q : ℕ). (q == p) && (n.handle == hd)) (found_own s.noted c n noted) ∙ e in
    inr (inl (
      sym (other_set (part_left n text) u.rests n.process n.handle p hd np ∙ ap (λ (rs : List Rest). rest_in rs p hd) same),
      ap (λ (m : Option Noted). (c == p) && (is_line_of hd m && true)) noted ∙ not_both (c == p) (n.handle == hd) e,
    ))

collect_by : (s : State) (c p hd : ℕ) (u : State) → u.rests ≡ s.rests → (n : Option Noted) (a : Answer) → noted_of s.noted c ≡ n
    → answer_in (slice_get s.reads (place_of s.reads c)) ≡ a
    → Going s c p hd events.Collect (answer_told u n a)
collect_by s c p hd u same None (answers.Units text) noted answer =
    inr (inl (
      ap (λ (rs : List Rest). rest_in rs p hd) (sym same),
      ap (λ (m : Option Noted). (c == p) && (is_line_of hd m && true)) noted
          ∙ not_first (c == p) true,
    ))
collect_by s c p hd u same (Some n) (answers.Units text) noted answer = cut_going s c p hd n text u ((c == p) && (n.handle == hd)) noted answer same refl
collect_by s c p hd u same n (answers.Records rs) noted answer = inr
    (inl (ap (λ (rs : List Rest). rest_in rs p hd) (sym same), never (c == p) (is_line_of hd (noted_of s.noted c))))
collect_by s c p hd u same n (answers.Fail why) noted answer = inr
    (inl (ap (λ (rs : List Rest). rest_in rs p hd) (sym same), never (c == p) (is_line_of hd (noted_of s.noted c))))

collect_going : (s : State) (c p hd : ℕ) → Going s c p hd events.Collect (collected s c)
unfolding collected
collect_going s c p hd = collect_by s c p hd (record s { reads = without s.reads c; noted = without_noted s.noted c }) refl (noted_of s.noted c)
    (answer_in (slice_get s.reads (place_of s.reads c))) refl refl

-- an Exit
exit_going : (s : State) (c p hd status : ℕ) (b : Bool) → (c == p) ≡ b → Going s c p hd (events.Exit status) (done (left s c status))
unfolding left
exit_going s c p hd status true e = inl (ap (λ (q : ℕ). rest_in (without_rests s.rests c) q hd) (sym (eqb-true c p e)) ∙ left_own s.rests c hd)
exit_going s c p hd status false e = inr (inl (sym (left_other s.rests c p hd e), rw e refl))

-- what leaves all of them
walks : (s : State) (c p hd : ℕ) (e : Event) (o : Outcome) → takes s c p hd e o.reply ≡ [] → ends s c p hd e o.reply ≡ false → o.after.rests ≡ s.rests
    → Going s c p hd e o
walks s c p hd e o none stays same =
    inr (inl (sym (ap (λ (us : List ℕ). us ++ rest_in o.after.rests p hd) none ∙ ap (λ (rs : List Rest). rest_in rs p hd) same), stays))

event_going : (s : State) (c p hd : ℕ) (e : Event) → Going s c p hd e (effect s c e)
unfolding effect took_ctrl resized painted
event_going s c p hd (events.Call x) = call_going s c p hd x
event_going s c p hd (events.Begin w) = begin_going s c p hd w
event_going s c p hd events.Collect = collect_going s c p hd
event_going s c p hd events.TakeCtrl = walks s c p hd events.TakeCtrl (took_ctrl s c) refl refl refl
event_going s c p hd (events.Exit status) = exit_going s c p hd status (c == p) refl
event_going s c p hd (events.Feed bytes) = walks s c p hd (events.Feed bytes) (done (fed s bytes)) refl refl (fed_walk s bytes).rests
event_going s c p hd events.Quiet = walks s c p hd events.Quiet (done (quiet s)) refl refl (quiet_walk s).rests
event_going s c p hd (events.Resize size) = walks s c p hd (events.Resize size) (done (resized s size)) refl refl
    (ap (λ (x : Core). x.rests) (size_core (record s { buffers = all_resized s.buffers size; resized = true })))
event_going s c p hd events.Ask = inr (inl (refl, refl))
event_going s c p hd events.Hangup = walks s c p hd events.Hangup (done (hung_up s)) refl refl (hung_walk s).rests
event_going s c p hd events.Drained = inr (inl (refl, refl))
event_going s c p hd events.Paint = inr (inl (refl, refl))

-- serving behind it changes no rest
finish_going : (s : State) (c p hd : ℕ) (e : Event) (o : Outcome) → Going s c p hd e o → Going s c p hd e (finished o)
finish_going s c p hd e o h = subst Ended (sym (finished_walk o).rests) h
  where
    Ended : List Rest → Type 0
    Ended rs = (rest_in rs p hd ≡ []) ⊎ (((rest_in s.rests p hd ≡ takes s c p hd e o.reply ++ rest_in rs p hd) × (ends s c p hd e o.reply ≡ false))
        ⊎ ((c ≡ p) × ((e ≡ events.Collect) × LineLeaves s p hd o.reply (rest_in rs p hd))))

-- a client that is not attached
refused_takes : (s : State) (c p hd : ℕ) (e : Event) → takes s c p hd e (replies.Fail code.BadHandle) ≡ []
refused_takes s c p hd (events.Begin w) = other_one ((c == p) && ((handle_of w == hd) && false)) (at_once (opens s c w)) [] (never (c == p) (handle_of w == hd))
refused_takes s c p hd e = refl

refused_closes : (c p hd : ℕ) (x : Call) → closes c p hd x (replies.Fail code.BadHandle) ≡ false
refused_closes c p hd (calls.Close h) = never (c == p) (h == hd)
refused_closes c p hd x = refl

refused_ends : (s : State) (c p hd : ℕ) (e : Event) → ends s c p hd e (replies.Fail code.BadHandle) ≡ false
refused_ends s c p hd (events.Call x) = refused_closes c p hd x
refused_ends s c p hd events.Collect = never (c == p) (is_line_of hd (noted_of s.noted c))
refused_ends s c p hd (events.Exit status) = and_no (c == p)
refused_ends s c p hd e = refl

entry_going : (s : State) (x : Entry) (p hd : ℕ) (b : Bool) → is_outside s x.actor x.event ≡ b
    → Going s (client_of x.actor) p hd x.event (step s x.actor x.event)
unfolding step
entry_going s x p hd true out =
    rw out (walks s (client_of x.actor) p hd x.event (refused s code.BadHandle) (refused_takes s (client_of x.actor) p hd x.event)
    (refused_ends s (client_of x.actor) p hd x.event) refl)
entry_going s x p hd false out = rw out (finish_going s (client_of x.actor) p hd x.event (effect s (client_of x.actor) x.event)
    (event_going s (client_of x.actor) p hd x.event))

-- ---- a history

abbrev Since : State → List Entry → ℕ → ℕ → List ℕ → Type 0
Since s h p hd rest = (rest_in s.rests p hd ≡ takes_in s p hd h ++ rest) × (ends_in s p hd h ≡ false)

abbrev Origin : State → List Entry → ℕ → ℕ → List ℕ → Type 0
Origin s h p hd rest = (rest ≡ []) ⊎ (Since s h p hd rest ⊎ IsLeft s h p hd rest)

none_behind : (xs ys : List ℕ) → [] ≡ xs ++ ys → ys ≡ []
none_behind [] ys e = sym e
none_behind (x ∷ xs) ys e = absurd (cc)

later_left : (s : State) (x : Entry) (xs : List Entry) (p hd : ℕ) (rest : List ℕ) → IsLeft (moved s x) xs p hd rest → IsLeft s (x ∷ xs) p hd rest
later_left s x xs p hd rest l = record {
  before = x ∷ l.before;
  last = l.last;
  later = l.later;
  is = ap (λ (ys : List Entry). x ∷ ys) l.is;
  client = l.client;
  collect = l.collect;
  left = l.left;
  leaves = l.leaves;
  goes_on = l.goes_on;
  once = l.once;
}

origin_by : (s : State) (x : Entry) (xs : List Entry) (p hd : ℕ) (rest : List ℕ) → Going s (client_of x.actor) p hd x.event (step s x.actor x.event)
    → Since (moved s x) xs p hd rest → Origin s (x ∷ xs) p hd rest
origin_by s x xs p hd rest (inl gone) k = inl (none_behind (takes_in (moved s x) p hd xs) rest (sym gone ∙ k.0))
origin_by s x xs p hd rest (inr (inl m)) k =
    let now : List ℕ = takes s (client_of x.actor) p hd x.event (step s x.actor x.event).reply in
    inr (inl (
      m.0 ∙ ap (λ (us : List ℕ). now ++ us) k.0 ∙ sym (append_assoc now (takes_in (moved s x) p hd xs) rest),
      neither (ends s (client_of x.actor) p hd x.event (step s x.actor x.event).reply) (ends_in (moved s x) p hd xs) m.1 k.1,
    ))
origin_by s x xs p hd rest (inr (inr l)) k = inr (inr (record {
  before = [];
  last = x;
  later = xs;
  is = refl;
  client = l.0;
  collect = l.1.0;
  left = rest_in (moved s x).rests p hd;
  leaves = l.1.1;
  goes_on = k.1;
  once = k.0;
}))

origin_on : (s : State) (x : Entry) (xs : List Entry) (p hd : ℕ) (rest : List ℕ) → Origin (moved s x) xs p hd rest → Origin s (x ∷ xs) p hd rest
origin_on s x xs p hd rest (inl none) = inl none
origin_on s x xs p hd rest (inr (inl k)) = origin_by s x xs p hd rest (entry_going s x p hd (is_outside s x.actor x.event) refl) k
origin_on s x xs p hd rest (inr (inr l)) = inr (inr (later_left s x xs p hd rest l))

origin : (s : State) (h : List Entry) (p hd : ℕ) → Origin s h p hd (rest_in (run s h).rests p hd)
origin s [] p hd = inr (inl (refl, refl))
origin s (x ∷ xs) p hd = origin_on s x xs p hd (rest_in (run (moved s x) xs).rests p hd) (origin (moved s x) xs p hd)

first_by : (s : State) (h : List Entry) (p hd : ℕ) (rest : List ℕ) → s.rests ≡ [] → Origin s h p hd rest → (rest ≡ []) ⊎ IsLeft s h p hd rest
first_by s h p hd rest none (inl e) = inl e
first_by s h p hd rest none (inr (inl k)) = inl (none_behind (takes_in s p hd h) rest (sym (ap (λ (rs : List Rest). rest_in rs p hd) none) ∙ k.0))
first_by s h p hd rest none (inr (inr l)) = inr l

pub left_once : (s : State) (h : List Entry) (p hd : ℕ) → s.rests ≡ [] → (rest_in (run s h).rests p hd ≡ []) ⊎ IsLeft s h p hd (rest_in (run s h).rests p hd)
left_once s h p hd none = first_by s h p hd (rest_in (run s h).rests p hd) none (origin s h p hd)

-- What is left of a line for a handle stays, until the handle is closed, or a line read leaves something else.
use Rattle.std.proofs.Common.{◌≡◌, ℕ, Bool, cond, subst, true≢false, List, [], ◌∷◌, ◌++◌, true, false, refl, ap, ◌∙◌, sym, Result, Ok, Err, Option, Some, None}
use Rattle.std.specs.Prelude.{◌==◌, ◌&&◌, slice_get, if◌then◌else◌}
use Rattle.std.proofs.lemmas.Bool.{eqb-true}
use Rattle.con_units.specs.declared.code.Code.{Code}
use Rattle.con_events.specs.declared.call.Call.{Call}
use Rattle.con_events.specs.declared.call.Call.TheVariants as calls
use Rattle.con_events.specs.declared.event.Event.{Event}
use Rattle.con_events.specs.declared.event.Event.TheVariants as events
use Rattle.con_events.specs.declared.reply.Reply.{Reply}
use Rattle.con_handles.specs.declared.handle.Object.{Object}
use Rattle.con_readers.specs.Reads.{answer_in, without, place_of}
use Rattle.con_readers.specs.declared.answer.Answer.{Answer}
use Rattle.con_readers.specs.declared.answer.Answer.TheVariants as answers
use Rattle.con_machine.specs.State.{State, noted_of, without_noted}
use Rattle.con_machine.specs.Outcome.{Outcome, done, by_answer, has_bit}
use Rattle.con_machine.specs.Words.Outcome.{with_object}
use Rattle.con_machine.specs.HandleCalls.{opened}
use Rattle.con_machine.specs.Words.HandleCalls.{owned as object_owned}
use Rattle.con_machine.specs.Call.{called}
use Rattle.con_machine.specs.Closing.{hung_up}
use Rattle.con_machine.specs.Reads.{collected, took_ctrl, left, answer_told, line_opened}
use Rattle.con_machine.specs.Words.Reads.{units_read}
use Rattle.con_machine.specs.Painting.{painted}
use Rattle.con_machine.specs.Terminal.{fed, quiet, resized}
use Rattle.con_machine.specs.Step.{effect, finished}
use Rattle.con_machine.specs.declared.reads.noted.Noted.{Noted}
use Rattle.std.proofs.Common.{not, filter, drop, ◌⊎◌, inl, inr}
use Rattle.std.proofs.lemmas.Bool.{eq-eqb}
use Rattle.std.proofs.lemmas.List.{take-append-drop}
use Rattle.con_events.specs.declared.entry.Entry.{Entry}
use Rattle.con_events.specs.declared.event.Wanted.{Wanted}
use Rattle.con_events.specs.declared.event.Wanted.TheVariants as wanted
use Rattle.con_events.specs.declared.reply.Reply.TheVariants as replies
use Rattle.con_readers.specs.declared.open.OpenRead.TheVariants as reads
use Rattle.con_machine.specs.State.{is_rest_of, rest_in, with_rest}
use Rattle.con_machine.specs.Words.State.{is_rest_by, has_rest, rest_begun, without_rest, without_rests}
use Rattle.con_machine.specs.Words.HandleCalls.{handle_closed}
use Rattle.con_machine.specs.History.{run}
use Rattle.con_machine.specs.Reads.{began as read_began, line_front, front_of, back_of, answered_with, with_read, line_begun}
use Rattle.con_machine.specs.Words.Reads.{line_cut, part_told, part_left, rest_answered, began_units, history_used, read_answer, records_answer, is_empty}
use Rattle.con_machine.specs.Step.{step, is_outside, client_of}
use Rattle.con_laws.specs.Words.Answers.{opens}
use Rattle.con_laws.specs.Left.{LeavesRest, LeftBy}
use Rattle.con_laws.specs.Remains.{handle_of}
use Rattle.con_screens.specs.Resize.{all_resized}
use Rattle.con_machine.specs.EventLaws.{Core, call_walk, fed_walk, quiet_walk, hung_walk, size_core, finished_walk}
use Rattle.con_machine.specs.declared.reads.rest.Rest.{Rest}

-- ---- lists of rests

-- a change of one rest: another's stays, and its own is this, or there is none
record Set (units : List ℕ) (rs : List Rest) (q h p hd : ℕ) : Type 0 where
  process : q ≡ p
  handle : h ≡ hd
  now : (rest_in (with_rest units rs q h) p hd ≡ units) ⊎ (rest_in (with_rest units rs q h) p hd ≡ [])

pub and_parts_of : (a b : Bool) → (a && b) ≡ true → (a ≡ true) × (b ≡ true)
and_parts_of true true e = (refl, refl)
and_parts_of true false e = absurd (true≢false (sym e))
and_parts_of false b e = absurd (true≢false (sym e))

set_by : (units : List ℕ) (r : Rest) (rs : List Rest) (q h p hd : ℕ) (a b : Bool) → is_rest_of q h r ≡ a → is_rest_of p hd r ≡ b → ((rest_in (with_rest units rs q h) p hd ≡ rest_in rs p hd) ⊎ Set units rs q h p hd)
    → (rest_in (with_rest units (r ∷ rs) q h) p hd ≡ rest_in (r ∷ rs) p hd) ⊎ Set units (r ∷ rs) q h p hd
set_by units r rs q h p hd true true ea eb ih =
    let x = and_parts_of (r.process == q) (r.handle == h) ea in
    let y = and_parts_of (r.process == p) (r.handle == hd) eb in
    inr (record {
      process = sym (eqb-true r.process q x.0) ∙ eqb-true r.process p y.0;
      handle = sym (eqb-true r.handle h x.1) ∙ eqb-true r.handle hd y.1;
      now = inl (rw ea (rw eb refl));
    })
set_by units r rs q h p hd true false ea eb ih = inl (rw ea (rw eb refl))
set_by units r rs q h p hd false true ea eb ih = inl (rw ea (rw eb refl))
set_by units r rs q h p hd false false ea eb (inl e) = inl (rw ea (rw eb e))
set_by units r rs q h p hd false false ea eb (inr e) = inr (record { process = e.process; handle = e.handle; now = now e.now })
  where
    now : (rest_in (with_rest units rs q h) p hd ≡ units) ⊎ (rest_in (with_rest units rs q h) p hd ≡ []) → (rest_in (with_rest units (r ∷ rs) q h) p hd ≡ units) ⊎ (rest_in (with_rest units (r ∷ rs) q h) p hd ≡ [])
    now (inl n) = inl (rw ea (rw eb n))
    now (inr n) = inr (rw ea (rw eb n))

set_is : (units : List ℕ) (rs : List Rest) (q h p hd : ℕ) → (rest_in (with_rest units rs q h) p hd ≡ rest_in rs p hd) ⊎ Set units rs q h p hd
set_is units [] q h p hd = inl refl
set_is units (r ∷ rs) q h p hd = set_by units r rs q h p hd (is_rest_of q h r) (is_rest_of p hd r) refl refl (set_is units rs q h p hd)

-- an empty rest behind the others
empty_by : (r e : Rest) (rs : List Rest) (p hd : ℕ) (b : Bool) → is_rest_of p hd r ≡ b → rest_in (rs ++ e ∷ []) p hd ≡ rest_in rs p hd → rest_in (r ∷ (rs ++ e ∷ [])) p hd ≡ rest_in (r ∷ rs) p hd
empty_by r e rs p hd true eb ih = rw eb refl
empty_by r e rs p hd false eb ih = rw eb ih

empty_last : (e : Rest) (p hd : ℕ) (b : Bool) → is_rest_of p hd e ≡ b → e.units ≡ [] → rest_in (e ∷ []) p hd ≡ []
empty_last e p hd true eb none = rw eb none
empty_last e p hd false eb none = rw eb refl

empty_behind : (rs : List Rest) (e : Rest) (p hd : ℕ) → e.units ≡ [] → rest_in (rs ++ e ∷ []) p hd ≡ rest_in rs p hd
empty_behind [] e p hd none = empty_last e p hd (is_rest_of p hd e) refl none
empty_behind (r ∷ rs) e p hd none = empty_by r e rs p hd (is_rest_of p hd r) refl (empty_behind rs e p hd none)

begun_by : (rs : List Rest) (e : Rest) (p hd : ℕ) (b : Bool) → e.units ≡ [] → rest_in (if b then rs else rs ++ e ∷ []) p hd ≡ rest_in rs p hd
begun_by rs e p hd true none = refl
begun_by rs e p hd false none = empty_behind rs e p hd none

pub begun_same : (rs : List Rest) (q h p hd : ℕ) → rest_in (rest_begun rs q h) p hd ≡ rest_in rs p hd
begun_same rs q h p hd = begun_by rs (record { process = q; handle = h; units = [] }) p hd (has_rest rs q h) refl

-- rests go
stay_by : (f : Rest → Bool) (r : Rest) (rs : List Rest) (p hd : ℕ) (a b : Bool) → f r ≡ a → is_rest_of p hd r ≡ b → (is_rest_of p hd r ≡ true → f r ≡ true) → rest_in (filter f rs) p hd ≡ rest_in rs p hd → rest_in (filter f (r ∷ rs)) p hd ≡ rest_in (r ∷ rs) p hd
stay_by f r rs p hd true true ea eb keep ih = rw ea (rw eb refl)
stay_by f r rs p hd true false ea eb keep ih = rw ea (rw eb ih)
stay_by f r rs p hd false true ea eb keep ih = absurd (true≢false (sym (keep eb) ∙ ea))
stay_by f r rs p hd false false ea eb keep ih = rw ea (rw eb ih)

pub stay : (f : Rest → Bool) (rs : List Rest) (p hd : ℕ) → ((r : Rest) → is_rest_of p hd r ≡ true → f r ≡ true) → rest_in (filter f rs) p hd ≡ rest_in rs p hd
stay f [] p hd keep = refl
stay f (r ∷ rs) p hd keep = stay_by f r rs p hd (f r) (is_rest_of p hd r) refl refl (keep r) (stay f rs p hd keep)

go_by : (f : Rest → Bool) (r : Rest) (rs : List Rest) (p hd : ℕ) (a b : Bool) → f r ≡ a → is_rest_of p hd r ≡ b → (is_rest_of p hd r ≡ true → f r ≡ false) → rest_in (filter f rs) p hd ≡ [] → rest_in (filter f (r ∷ rs)) p hd ≡ []
go_by f r rs p hd true true ea eb drop ih = absurd (true≢false (sym ea ∙ drop eb))
go_by f r rs p hd true false ea eb drop ih = rw ea (rw eb ih)
go_by f r rs p hd false b ea eb drop ih = rw ea ih

pub go : (f : Rest → Bool) (rs : List Rest) (p hd : ℕ) → ((r : Rest) → is_rest_of p hd r ≡ true → f r ≡ false) → rest_in (filter f rs) p hd ≡ []
go f [] p hd drop = refl
go f (r ∷ rs) p hd drop = go_by f r rs p hd (f r) (is_rest_of p hd r) refl refl (drop r) (go f rs p hd drop)

-- ---- a rest stays, or it is gone

abbrev Kept : ℕ → ℕ → State → State → Type 0
Kept p hd s t = (rest_in t.rests p hd ≡ rest_in s.rests p hd) ⊎ (rest_in t.rests p hd ≡ [])

same : (p hd : ℕ) (s t : State) → t.rests ≡ s.rests → Kept p hd s t
same p hd s t e = inl (ap (λ (rs : List Rest). rest_in rs p hd) e)

closed_by : (q hd : ℕ) (rs : List Rest) (p h : ℕ) (b : Bool) → ((p == q) && (h == hd)) ≡ b → (rest_in (without_rest rs p h) q hd ≡ rest_in rs q hd) ⊎ (rest_in (without_rest rs p h) q hd ≡ [])
closed_by q hd rs p h true e =
    let parts = and_parts_of (p == q) (h == hd) e in
    let ep : p ≡ q = eqb-true p q parts.0 in
    let eh : h ≡ hd = eqb-true h hd parts.1 in
    inr (go (λ r. not (is_rest_of p h r)) rs q hd (λ r is. ap not (ap (λ (n : ℕ). is_rest_of n h r) ep ∙ ap (λ (n : ℕ). is_rest_of q n r) eh ∙ is)))
closed_by q hd rs p h false e = inl (stay (λ r. not (is_rest_of p h r)) rs q hd (λ r is. other r is (is_rest_of p h r) refl))
  where
    other : (r : Rest) → is_rest_of q hd r ≡ true → (b : Bool) → is_rest_of p h r ≡ b → not (is_rest_of p h r) ≡ true
    other r is false one = ap not one
    other r is true one =
        let x = and_parts_of (r.process == p) (r.handle == h) one in
        let y = and_parts_of (r.process == q) (r.handle == hd) is in
        let ep : (p == q) ≡ true = eq-eqb p q (sym (eqb-true r.process p x.0) ∙ eqb-true r.process q y.0) in
        let eh : (h == hd) ≡ true = eq-eqb h hd (sym (eqb-true r.handle h x.1) ∙ eqb-true r.handle hd y.1) in
        absurd (true≢false (sym (ap (λ (b : Bool). b && (h == hd)) ep ∙ eh) ∙ e))

left_by : (q hd : ℕ) (rs : List Rest) (p : ℕ) (b : Bool) → (p == q) ≡ b → (rest_in (without_rests rs p) q hd ≡ rest_in rs q hd) ⊎ (rest_in (without_rests rs p) q hd ≡ [])
left_by q hd rs p true e =
    let ep : p ≡ q = eqb-true p q e in
    inr (go (λ r. not (is_rest_by p r)) rs q hd (λ r is. ap not (ap (λ (n : ℕ). is_rest_by n r) ep ∙ (and_parts_of (r.process == q) (r.handle == hd) is).0)))
left_by q hd rs p false e = inl (stay (λ r. not (is_rest_by p r)) rs q hd (λ r is. other r is (is_rest_by p r) refl))
  where
    other : (r : Rest) → is_rest_of q hd r ≡ true → (b : Bool) → is_rest_by p r ≡ b → not (is_rest_by p r) ≡ true
    other r is false one = ap not one
    other r is true one =
        let y = and_parts_of (r.process == q) (r.handle == hd) is in
        absurd (true≢false (sym (eq-eqb p q (sym (eqb-true r.process p one) ∙ eqb-true r.process q y.0)) ∙ e))

-- ---- calls

close_kept : (q hd : ℕ) (s : State) (p h : ℕ) (g : Result Object Code) → Kept q hd s (with_object s g (λ o. done (handle_closed s p h o))).after
close_kept q hd s p h (Err why) = inl refl
close_kept q hd s p h (Ok o) = closed_by q hd s.rests p h ((p == q) && (h == hd)) refl

call_kept : (q hd : ℕ) (s : State) (p : ℕ) (c : Call) → Kept q hd s (called s p c).after
unfolding called
call_kept q hd s p (calls.Close h) = close_kept q hd s p h (object_owned s p h)
call_kept q hd s p c = same q hd s (called s p c).after ((call_walk s p c).rests refl)

-- ---- an event: the rest stays, or is gone, or this event left it

abbrev Stepped : State → ℕ → ℕ → ℕ → Event → Outcome → Type 0
Stepped s c p hd e o = Kept p hd s o.after ⊎ ((c ≡ p) × LeavesRest s p hd e o.reply (rest_in o.after.rests p hd))

process_or : Option Noted → ℕ
process_or None = 0
process_or (Some n) = n.process

found_by : (m n : Noted) (ns : List Noted) (p : ℕ) (b : Bool) → (m.process == p) ≡ b → (noted_of ns p ≡ Some n → n.process ≡ p) → cond b (Some m) (noted_of ns p) ≡ Some n → n.process ≡ p
unfolding process_or
found_by m n ns p true e ih h = ap process_or (sym h) ∙ eqb-true m.process p e
found_by m n ns p false e ih h = ih h

pub found_own : (ns : List Noted) (p : ℕ) (n : Noted) → noted_of ns p ≡ Some n → n.process ≡ p
found_own [] p n h = cc
found_own (m ∷ ns) p n h = found_by m n ns p (m.process == p) refl (found_own ns p n) h

pub whole_text : (n : Noted) (text : List ℕ) (b : Bool) → n.woken ≡ b → text ≡ part_told n text ++ part_left n text
whole_text n text true e = rw e (sym (take-append-drop n.n text))
whole_text n text false e = rw e (sym (take-append-drop (line_front n.n text) text))

-- a Collect
cut_step : (s : State) (c p hd : ℕ) (n : Noted) (text : List ℕ) → noted_of s.noted c ≡ Some n → answer_in (slice_get s.reads (place_of s.reads c)) ≡ answers.Units text
    → (u : State) → u.rests ≡ s.rests → (rest_in (with_rest (part_left n text) u.rests n.process n.handle) p hd ≡ rest_in u.rests p hd) ⊎ Set (part_left n text) u.rests n.process n.handle p hd → Stepped s c p hd events.Collect (line_cut u n text)
cut_step s c p hd n text noted answer u same_rests (inl e) = inl (inl (e ∙ ap (λ (rs : List Rest). rest_in rs p hd) same_rests))
cut_step s c p hd n text noted answer u same_rests (inr e) = now e.now
  where
    now : (rest_in (with_rest (part_left n text) u.rests n.process n.handle) p hd ≡ part_left n text) ⊎ (rest_in (with_rest (part_left n text) u.rests n.process n.handle) p hd ≡ []) → Stepped s c p hd events.Collect (line_cut u n text)
    now (inr none) = inl (inr none)
    now (inl is) =
        let cp : c ≡ p = sym (found_own s.noted c n noted) ∙ e.process in
        inr (
          cp,
          record {
            note = n;
            noted = subst (λ (q : ℕ). noted_of s.noted q ≡ Some n) cp noted;
            handle = e.handle;
            text = text;
            answer = subst (λ (q : ℕ). answer_in (slice_get s.reads (place_of s.reads q)) ≡ answers.Units text) cp answer;
            units = part_told n text;
            told = refl;
            whole = whole_text n text n.woken refl ∙ ap (λ (us : List ℕ). part_told n text ++ us) (sym is);
          },
        )

collect_by_note : (s : State) (c p hd : ℕ) (u : State) → u.rests ≡ s.rests → (n : Option Noted) (a : Answer) → noted_of s.noted c ≡ n → answer_in (slice_get s.reads (place_of s.reads c)) ≡ a → Stepped s c p hd events.Collect (answer_told u n a)
collect_by_note s c p hd u same_rests None (answers.Units text) noted answer = inl (same p hd s u same_rests)
collect_by_note s c p hd u same_rests (Some n) (answers.Units text) noted answer = cut_step s c p hd n text noted answer u same_rests (set_is (part_left n text) u.rests n.process n.handle p hd)
collect_by_note s c p hd u same_rests n (answers.Records rs) noted answer = inl (same p hd s u same_rests)
collect_by_note s c p hd u same_rests n (answers.Fail why) noted answer = inl (same p hd s u same_rests)

collect_step : (s : State) (c p hd : ℕ) → Stepped s c p hd events.Collect (collected s c)
unfolding collected
collect_step s c p hd = collect_by_note s c p hd (record s { reads = without s.reads c; noted = without_noted s.noted c }) refl (noted_of s.noted c) (answer_in (slice_get s.reads (place_of s.reads c))) refl refl

-- a Begin
rest_step : (s : State) (c p hd h n : ℕ) (w : Wanted) (u : State) (reply : Reply) → u.rests ≡ s.rests → handle_of w ≡ h → opens s c w ≡ reads.Done (answers.Units (front_of n (rest_in s.rests c h)))
    → (rest_in (with_rest (back_of n (rest_in s.rests c h)) u.rests c h) p hd ≡ rest_in u.rests p hd) ⊎ Set (back_of n (rest_in s.rests c h)) u.rests c h p hd → Stepped s c p hd (events.Begin w) (record { after = rest_answered u c h n (rest_in s.rests c h); reply = reply })
rest_step s c p hd h n w u reply same_rests handle opened (inl e) = inl (inl (e ∙ ap (λ (rs : List Rest). rest_in rs p hd) same_rests))
rest_step s c p hd h n w u reply same_rests handle opened (inr e) = now e.now
  where
    now : (rest_in (with_rest (back_of n (rest_in s.rests c h)) u.rests c h) p hd ≡ back_of n (rest_in s.rests c h)) ⊎ (rest_in (with_rest (back_of n (rest_in s.rests c h)) u.rests c h) p hd ≡ []) → Stepped s c p hd (events.Begin w) (record { after = rest_answered u c h n (rest_in s.rests c h); reply = reply })
    now (inr none) = inl (inr none)
    now (inl is) =
        let text : List ℕ = rest_in s.rests c h in
        inr (
          e.process,
          record {
            handle = handle ∙ e.handle;
            units = front_of n text;
            answer = subst (λ (q : ℕ). opens s q w ≡ reads.Done (answers.Units (front_of n text))) e.process opened;
            whole = ap (λ (q : ℕ). rest_in s.rests q hd) (sym e.process) ∙ ap (λ (k : ℕ). rest_in s.rests c k) (sym e.handle) ∙ sym (take-append-drop (line_front n text) text) ∙ ap (λ (us : List ℕ). front_of n text ++ us) (sym is);
          },
        )

line_by : (s : State) (c p hd h n : ℕ) (w : Wanted) (initial : List ℕ) (mask : ℕ) (m b : Bool) → handle_of w ≡ h
    → opens s c w ≡ (if m then reads.Done (answers.Units []) else if b then line_opened s c initial mask else reads.Done (answers.Units (front_of n (rest_in s.rests c h))))
    → Stepped s c p hd (events.Begin w) (done (if m then answered_with (history_used s c) c [] else if b then line_begun (history_used s c) c h n initial mask else rest_answered (history_used s c) c h n (rest_in s.rests c h)))
line_by s c p hd h n w initial mask true b handle opened = inl (inl refl)
line_by s c p hd h n w initial mask false true handle opened = inl (inl (begun_same s.rests c h p hd))
line_by s c p hd h n w initial mask false false handle opened = rest_step s c p hd h n w (history_used s c) replies.Done refl handle opened (set_is (back_of n (rest_in s.rests c h)) s.rests c h p hd)

text_by : (s : State) (c p hd h n : ℕ) (w : Wanted) (initial : List ℕ) (mask : ℕ) (a m b : Bool) → handle_of w ≡ h
    → opens s c w ≡ (if a then (if m then reads.Done (answers.Units []) else if b then line_opened s c initial mask else reads.Done (answers.Units (front_of n (rest_in s.rests c h)))) else units_read n)
    → Stepped s c p hd (events.Begin w) (done (if a then (if m then answered_with (history_used s c) c [] else if b then line_begun (history_used s c) c h n initial mask else rest_answered (history_used s c) c h n (rest_in s.rests c h)) else began_units s c n))
text_by s c p hd h n w initial mask true m b handle opened = line_by s c p hd h n w initial mask m b handle opened
text_by s c p hd h n w initial mask false m b handle opened = inl (units_by s c p hd n (n == 0))
  where
    units_by : (s : State) (c p hd n : ℕ) (b : Bool) → Kept p hd s (if b then answered_with s c [] else with_read s c (reads.Units n))
    units_by s c p hd n true = inl refl
    units_by s c p hd n false = inl refl

by_read_answer : (s : State) (c p hd : ℕ) (w : Wanted) (r : Result (Unit {0}) Code) (t : State) → Stepped s c p hd (events.Begin w) (done t) → Stepped s c p hd (events.Begin w) (by_answer s r t)
by_read_answer s c p hd w (Err why) t h = inl (inl refl)
by_read_answer s c p hd w (Ok u) t h = h

begin_step : (s : State) (c p hd : ℕ) (w : Wanted) → Stepped s c p hd (events.Begin w) (read_began s c w)
unfolding read_began opens
begin_step s c p hd (wanted.Read h n) = by_read_answer s c p hd (wanted.Read h n) (read_answer s c h n []) _ (text_by s c p hd h n (wanted.Read h n) [] 0 (has_bit s.mode 2) (n == 0) (is_empty (rest_in s.rests c h)) refl refl)
begin_step s c p hd (wanted.ReadWith h n initial mask) = by_read_answer s c p hd (wanted.ReadWith h n initial mask) (read_answer s c h n initial) _ (text_by s c p hd h n (wanted.ReadWith h n initial mask) initial mask (has_bit s.mode 2) (n == 0) (is_empty (rest_in s.rests c h)) refl refl)
begin_step s c p hd (wanted.ReadInput h n) = by_read_answer s c p hd (wanted.ReadInput h n) (records_answer s c h n) _ (inl (inl refl))

event_step : (s : State) (c p hd : ℕ) (e : Event) → Stepped s c p hd e (effect s c e)
unfolding effect took_ctrl left resized painted
event_step s c p hd (events.Call call) = inl (call_kept p hd s c call)
event_step s c p hd (events.Begin w) = begin_step s c p hd w
event_step s c p hd events.Collect = collect_step s c p hd
event_step s c p hd events.TakeCtrl = inl (inl refl)
event_step s c p hd (events.Exit status) = inl (left_by p hd s.rests c (c == p) refl)
event_step s c p hd (events.Feed bytes) = inl (same p hd s (fed s bytes) (fed_walk s bytes).rests)
event_step s c p hd events.Quiet = inl (same p hd s (quiet s) (quiet_walk s).rests)
event_step s c p hd (events.Resize size) = inl (same p hd s (resized s size) (ap (λ (x : Core). x.rests) (size_core (record s { buffers = all_resized s.buffers size; resized = true }))))
event_step s c p hd events.Ask = inl (inl refl)
event_step s c p hd events.Hangup = inl (same p hd s (hung_up s) (hung_walk s).rests)
event_step s c p hd events.Drained = inl (inl refl)
event_step s c p hd events.Paint = inl (inl refl)

-- serving behind it changes no rest
finish_step : (s : State) (c p hd : ℕ) (e : Event) (o : Outcome) → Stepped s c p hd e o → Stepped s c p hd e (finished o)
finish_step s c p hd e o h = subst (λ (rs : List Rest). Ended rs) (sym (finished_walk o).rests) h
  where
    Ended : List Rest → Type 0
    Ended rs = ((rest_in rs p hd ≡ rest_in s.rests p hd) ⊎ (rest_in rs p hd ≡ [])) ⊎ ((c ≡ p) × LeavesRest s p hd e o.reply (rest_in rs p hd))

entry_step : (s : State) (x : Entry) (p hd : ℕ) (b : Bool) → is_outside s x.actor x.event ≡ b → Stepped s (client_of x.actor) p hd x.event (step s x.actor x.event)
unfolding step
entry_step s x p hd true out = rw out (inl (inl refl))
entry_step s x p hd false out = rw out (finish_step s (client_of x.actor) p hd x.event (effect s (client_of x.actor) x.event) (event_step s (client_of x.actor) p hd x.event))

-- ---- a history

abbrev Origin : State → List Entry → ℕ → ℕ → List ℕ → Type 0
Origin s h p hd rest = (rest ≡ []) ⊎ ((rest ≡ rest_in s.rests p hd) ⊎ LeftBy s h p hd rest)

later_left : (s : State) (x : Entry) (xs : List Entry) (p hd : ℕ) (rest : List ℕ) → LeftBy (step s x.actor x.event).after xs p hd rest → LeftBy s (x ∷ xs) p hd rest
later_left s x xs p hd rest l = record {
  before = x ∷ l.before;
  entry = l.entry;
  later = l.later;
  is = ap (λ (ys : List Entry). x ∷ ys) l.is;
  client = l.client;
  leaves = l.leaves;
}

origin_by : (s : State) (x : Entry) (xs : List Entry) (p hd : ℕ) (rest : List ℕ) → Stepped s (client_of x.actor) p hd x.event (step s x.actor x.event) → rest ≡ rest_in (step s x.actor x.event).after.rests p hd → Origin s (x ∷ xs) p hd rest
origin_by s x xs p hd rest (inl (inl e)) h = inr (inl (h ∙ e))
origin_by s x xs p hd rest (inl (inr e)) h = inl (h ∙ e)
origin_by s x xs p hd rest (inr l) h = inr (inr (record {
  before = [];
  entry = x;
  later = xs;
  is = refl;
  client = l.0;
  leaves = subst (LeavesRest s p hd x.event (step s x.actor x.event).reply) (sym h) l.1;
}))

origin_on : (s : State) (x : Entry) (xs : List Entry) (p hd : ℕ) (rest : List ℕ) → Origin (step s x.actor x.event).after xs p hd rest → Origin s (x ∷ xs) p hd rest
origin_on s x xs p hd rest (inl none) = inl none
origin_on s x xs p hd rest (inr (inl e)) = origin_by s x xs p hd rest (entry_step s x p hd (is_outside s x.actor x.event) refl) e
origin_on s x xs p hd rest (inr (inr l)) = inr (inr (later_left s x xs p hd rest l))

origin : (s : State) (h : List Entry) (p hd : ℕ) → Origin s h p hd (rest_in (run s h).rests p hd)
origin s [] p hd = inr (inl refl)
origin s (x ∷ xs) p hd = origin_on s x xs p hd (rest_in (run (step s x.actor x.event).after xs).rests p hd) (origin (step s x.actor x.event).after xs p hd)

first_by : (s : State) (h : List Entry) (p hd : ℕ) (rest : List ℕ) → s.rests ≡ [] → Origin s h p hd rest → (rest ≡ []) ⊎ LeftBy s h p hd rest
first_by s h p hd rest none (inl e) = inl e
first_by s h p hd rest none (inr (inl e)) = inl (e ∙ ap (λ (rs : List Rest). rest_in rs p hd) none)
first_by s h p hd rest none (inr (inr l)) = inr l

pub rests_from : (s : State) (h : List Entry) (p hd : ℕ) → s.rests ≡ [] → (rest_in (run s h).rests p hd ≡ []) ⊎ LeftBy s h p hd (rest_in (run s h).rests p hd)
rests_from s h p hd none = first_by s h p hd (rest_in (run s h).rests p hd) none (origin s h p hd)

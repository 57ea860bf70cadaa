-- For a handle that was closed nothing is left until a read of it begins, whoever has its number then.
use Rattle.std.proofs.Common.{◌≡◌, ℕ, Bool, true, false, not, ◌&&◌, List, [], ◌∷◌, ◌++◌, filter, Option, Some, None, Result, Ok, Err, refl, sym, ap, ◌∙◌, true≢false}
use Rattle.std.specs.Prelude.{◌==◌, ◌||◌, slice_get, if◌then◌else◌}
use Rattle.std.proofs.lemmas.Bool.{eqb-true}
use Rattle.con_units.specs.declared.code.Code.{Code}
use Rattle.con_units.specs.declared.code.Code.TheVariants as code
use Rattle.con_events.specs.declared.actor.Actor.{Actor}
use Rattle.con_events.specs.declared.call.Call.{Call}
use Rattle.con_events.specs.declared.call.Call.TheVariants as calls
use Rattle.con_events.specs.declared.entry.Entry.{Entry}
use Rattle.con_events.specs.declared.event.Event.{Event}
use Rattle.con_events.specs.declared.event.Event.TheVariants as events
use Rattle.con_events.specs.declared.event.Wanted.{Wanted}
use Rattle.con_events.specs.declared.event.Wanted.TheVariants as wanted
use Rattle.con_events.specs.declared.reply.Reply.TheVariants as replies
use Rattle.con_handles.specs.declared.handle.Object.{Object}
use Rattle.con_readers.specs.Reads.{answer_in, without, place_of}
use Rattle.con_readers.specs.declared.answer.Answer.{Answer}
use Rattle.con_readers.specs.declared.answer.Answer.TheVariants as answers
use Rattle.con_readers.specs.declared.open.OpenRead.TheVariants as reads
use Rattle.con_screens.specs.Resize.{all_resized}
use Rattle.con_machine.specs.State.{State, noted_of, without_noted, is_rest_of, rest_in, with_rest}
use Rattle.con_machine.specs.Words.State.{is_rest_by, has_rest, rest_begun, without_rest}
use Rattle.con_machine.specs.Outcome.{refused, done, by_answer, has_bit}
use Rattle.con_machine.specs.Words.Outcome.{with_object}
use Rattle.con_machine.specs.Words.HandleCalls.{owned as object_owned, handle_closed}
use Rattle.con_machine.specs.Call.{called}
use Rattle.con_machine.specs.Closing.{hung_up}
use Rattle.con_machine.specs.EventLaws.{Core, call_walk, fed_walk, quiet_walk, hung_walk, size_core, finished_walk}
use Rattle.con_machine.specs.History.{run}
use Rattle.con_machine.specs.HistoryLaws.{run-append}
use Rattle.con_laws.specs.Remains.{handle_of}
use Rattle.con_machine.specs.Painting.{painted}
use Rattle.con_machine.specs.Reads.{began as read_began, began_line, collected, took_ctrl, left, answer_told, back_of, answered_with, with_read, line_begun}
use Rattle.con_machine.specs.Words.Reads.{began_units, part_left, rest_answered, history_used, read_answer, records_answer, is_empty}
use Rattle.con_laws.specs.Rested.{begins, begins_in, closes, closes_it}
use Rattle.con_machine.specs.Step.{step, effect, finished, is_outside, client_of}
use Rattle.con_machine.specs.Terminal.{fed, quiet, resized}
use Rattle.con_machine.specs.Turns.{moved}
use Rattle.con_machine.specs.declared.reads.noted.Noted.{Noted}
use Rattle.con_machine.specs.declared.reads.rest.Rest.{Rest}
use Rattle.con_laws.proofs.Lefts.{and_parts_of}

-- ---- lists of rests

abbrev IsNone : ℕ → ℕ → List Rest → Type 0
IsNone p hd rs = has_rest rs p hd ≡ false

or_parts : (a b : Bool) → (a || b) ≡ false → (a ≡ false) × (b ≡ false)
or_parts true b e = absurd (true≢false e)
or_parts false b e = (refl, e)

either : (a b : Bool) → a ≡ false → b ≡ false → (a || b) ≡ false
either a b e f = rw (e, f) refl

-- of what is none, none is kept
kept_by : (f : Rest → Bool) (r : Rest) (rs : List Rest) (p hd : ℕ) (b : Bool) → f r ≡ b → is_rest_of p hd r ≡ false → IsNone p hd (filter f rs)
    → IsNone p hd (filter f (r ∷ rs))
kept_by f r rs p hd true e n ih = rw e (either (is_rest_of p hd r) (has_rest (filter f rs) p hd) n ih)
kept_by f r rs p hd false e n ih = rw e ih

none_kept : (f : Rest → Bool) (rs : List Rest) (p hd : ℕ) → IsNone p hd rs → IsNone p hd (filter f rs)
none_kept f [] p hd n = refl
none_kept f (r ∷ rs) p hd n = let k = or_parts (is_rest_of p hd r) (has_rest rs p hd) n in kept_by f r rs p hd (f r) refl k.0 (none_kept f rs p hd k.1)

changed_by : (us : List ℕ) (r : Rest) (rs : List Rest) (q h p hd : ℕ) (b : Bool) → is_rest_of q h r ≡ b → (is_rest_of p hd r ≡ false) × IsNone p hd rs
    → IsNone p hd (with_rest us rs q h) → IsNone p hd (with_rest us (r ∷ rs) q h)
changed_by us r rs q h p hd true e n ih = rw e (either (is_rest_of p hd r) (has_rest rs p hd) n.0 n.1)
changed_by us r rs q h p hd false e n ih = rw e (either (is_rest_of p hd r) (has_rest (with_rest us rs q h) p hd) n.0 ih)

none_changed : (us : List ℕ) (rs : List Rest) (q h p hd : ℕ) → IsNone p hd rs → IsNone p hd (with_rest us rs q h)
none_changed us [] q h p hd n = refl
none_changed us (r ∷ rs) q h p hd n = let k = or_parts (is_rest_of p hd r) (has_rest rs p hd) n in changed_by us r rs q h p hd (is_rest_of q h r) refl k
    (none_changed us rs q h p hd k.1)

none_behind : (rs : List Rest) (e : Rest) (p hd : ℕ) → is_rest_of p hd e ≡ false → IsNone p hd rs → IsNone p hd (rs ++ e ∷ [])
none_behind [] e p hd n m = either (is_rest_of p hd e) false n refl
none_behind (r ∷ rs) e p hd n m = let k = or_parts (is_rest_of p hd r) (has_rest rs p hd) m in either (is_rest_of p hd r) (has_rest (rs ++ e ∷ []) p hd) k.0
    (none_behind rs e p hd n k.1)

begun_or : (b : Bool) (rs xs : List Rest) (p hd : ℕ) → IsNone p hd rs → IsNone p hd xs → IsNone p hd (if b then rs else xs)
begun_or true rs xs p hd h k = h
begun_or false rs xs p hd h k = k

none_begun : (rs : List Rest) (q h p hd : ℕ) → ((q == p) && (h == hd)) ≡ false → IsNone p hd rs → IsNone p hd (rest_begun rs q h)
none_begun rs q h p hd e n =
    let one : Rest = record { process = q; handle = h; units = [] } in
    begun_or (has_rest rs q h) rs (rs ++ one ∷ []) p hd n (none_behind rs one p hd e n)

none_left : (rs : List Rest) (p hd : ℕ) → IsNone p hd rs → rest_in rs p hd ≡ []
none_left [] p hd n = refl
none_left (r ∷ rs) p hd n = let k = or_parts (is_rest_of p hd r) (has_rest rs p hd) n in rw k.0 (none_left rs p hd k.1)

gone_by : (r : Rest) (rs : List Rest) (p h : ℕ) (b : Bool) → is_rest_of p h r ≡ b → IsNone p h (without_rest rs p h) → IsNone p h (without_rest (r ∷ rs) p h)
gone_by r rs p h true e ih = rw e ih
gone_by r rs p h false e ih = rw (e, e) ih

none_closed : (rs : List Rest) (p h : ℕ) → IsNone p h (without_rest rs p h)
none_closed [] p h = refl
none_closed (r ∷ rs) p h = gone_by r rs p h (is_rest_of p h r) refl (none_closed rs p h)

-- ---- an event

test_of : (a b : Bool) → (a && (b && true)) ≡ false → (a && b) ≡ false
test_of true true e = e
test_of true false e = refl
test_of false b e = refl

close_none : (p hd : ℕ) (s : State) (c h : ℕ) (g : Result Object Code) → IsNone p hd s.rests
    → IsNone p hd (with_object s g (λ o. done (handle_closed s c h o))).after.rests
close_none p hd s c h (Err why) n = n
close_none p hd s c h (Ok o) n = none_kept (λ r. not (is_rest_of c h r)) s.rests p hd n

call_none : (p hd : ℕ) (s : State) (c : ℕ) (x : Call) → IsNone p hd s.rests → IsNone p hd (called s c x).after.rests
unfolding called
call_none p hd s c (calls.Close h) n = close_none p hd s c h (object_owned s c h) n
call_none p hd s c x n = ap (λ (rs : List Rest). has_rest rs p hd) ((call_walk s c x).rests refl) ∙ n

state_or : (p hd : ℕ) (b : Bool) (x y : State) → IsNone p hd x.rests → IsNone p hd y.rests → IsNone p hd (if b then x else y).rests
state_or p hd true x y h k = h
state_or p hd false x y h k = k

text_none : (p hd : ℕ) (s : State) (c h n : ℕ) (initial : List ℕ) (mask : ℕ) → ((c == p) && (h == hd)) ≡ false → IsNone p hd s.rests
    → IsNone p hd (if has_bit s.mode 2 then began_line (history_used s c) c h n initial mask else began_units s c n).rests
text_none p hd s c h n initial mask e none =
    let t : State = history_used s c in
    let rest : List ℕ = rest_in s.rests c h in
    state_or p hd (has_bit s.mode 2) (began_line t c h n initial mask) (began_units s c n)
    (state_or p hd (n == 0) (answered_with t c []) (if is_empty rest then line_begun t c h n initial mask else rest_answered t c h n rest) none
    (state_or p hd (is_empty rest) (line_begun t c h n initial mask) (rest_answered t c h n rest) (none_begun s.rests c h p hd e none)
    (none_changed (back_of n rest) s.rests c h p hd none)))
    (state_or p hd (n == 0) (answered_with s c []) (with_read s c (reads.Units n)) none none)

by_read_answer : (p hd : ℕ) (s : State) (c : ℕ) (w : Wanted) (r : Result (Unit {0}) Code) (t : State) → IsNone p hd s.rests
    → (((c == p) && (handle_of w == hd)) ≡ false → IsNone p hd t.rests)
    → begins c p hd (events.Begin w) (by_answer s r t).reply ≡ false → IsNone p hd (by_answer s r t).after.rests
by_read_answer p hd s c w (Err why) t n later e = n
by_read_answer p hd s c w (Ok u) t n later e = later (test_of (c == p) (handle_of w == hd) e)

begin_none : (p hd : ℕ) (s : State) (c : ℕ) (w : Wanted) → IsNone p hd s.rests → begins c p hd (events.Begin w) (read_began s c w).reply ≡ false
    → IsNone p hd (read_began s c w).after.rests
unfolding read_began
begin_none p hd s c (wanted.Read h n) none = by_read_answer p hd s c (wanted.Read h n) (read_answer s c h n []) _ none (λ e. text_none p hd s c h n [] 0 e none)
begin_none p hd s c (wanted.ReadWith h n initial mask) none = by_read_answer p hd s c (wanted.ReadWith h n initial mask) (read_answer s c h n initial) _ none
    (λ e. text_none p hd s c h n initial mask e none)
begin_none p hd s c (wanted.ReadInput h n) none = by_read_answer p hd s c (wanted.ReadInput h n) (records_answer s c h n) _ none (λ e. none)

told_none : (p hd : ℕ) (u : State) (n : Option Noted) (a : Answer) → IsNone p hd u.rests → IsNone p hd (answer_told u n a).after.rests
told_none p hd u None (answers.Units text) none = none
told_none p hd u (Some n) (answers.Units text) none = none_changed (part_left n text) u.rests n.process n.handle p hd none
told_none p hd u n (answers.Records rs) none = none
told_none p hd u n (answers.Fail why) none = none

collect_none : (p hd : ℕ) (s : State) (c : ℕ) → IsNone p hd s.rests → IsNone p hd (collected s c).after.rests
unfolding collected
collect_none p hd s c none = told_none p hd (record s { reads = without s.reads c; noted = without_noted s.noted c }) (noted_of s.noted c)
    (answer_in (slice_get s.reads (place_of s.reads c))) none

left_none : (p hd : ℕ) (s : State) (c status : ℕ) → IsNone p hd s.rests → IsNone p hd (left s c status).rests
unfolding left
left_none p hd s c status none = none_kept (λ r. not (is_rest_by c r)) s.rests p hd none

same_none : (p hd : ℕ) (s t : State) → t.rests ≡ s.rests → IsNone p hd s.rests → IsNone p hd t.rests
same_none p hd s t e none = ap (λ (rs : List Rest). has_rest rs p hd) e ∙ none

event_none : (p hd : ℕ) (s : State) (c : ℕ) (e : Event) → IsNone p hd s.rests → begins c p hd e (effect s c e).reply ≡ false
    → IsNone p hd (effect s c e).after.rests
unfolding effect took_ctrl resized painted
event_none p hd s c (events.Call x) n b = call_none p hd s c x n
event_none p hd s c (events.Begin w) n b = begin_none p hd s c w n b
event_none p hd s c events.Collect n b = collect_none p hd s c n
event_none p hd s c events.TakeCtrl n b = n
event_none p hd s c (events.Exit status) n b = left_none p hd s c status n
event_none p hd s c (events.Feed bytes) n b = same_none p hd s (fed s bytes) (fed_walk s bytes).rests n
event_none p hd s c events.Quiet n b = same_none p hd s (quiet s) (quiet_walk s).rests n
event_none p hd s c (events.Resize size) n b = same_none p hd s (resized s size)
    (ap (λ (x : Core). x.rests) (size_core (record s { buffers = all_resized s.buffers size; resized = true }))) n
event_none p hd s c events.Ask n b = n
event_none p hd s c events.Hangup n b = same_none p hd s (hung_up s) (hung_walk s).rests n
event_none p hd s c events.Drained n b = n
event_none p hd s c events.Paint n b = n

step_by : (p hd : ℕ) (s : State) (c : ℕ) (e : Event) (b : Bool) → IsNone p hd s.rests
    → begins c p hd e (if b then refused s code.BadHandle else finished (effect s c e)).reply ≡ false
    → IsNone p hd (if b then refused s code.BadHandle else finished (effect s c e)).after.rests
step_by p hd s c e true n k = n
step_by p hd s c e false n k = same_none p hd (effect s c e).after (finished (effect s c e)).after (finished_walk (effect s c e)).rests
    (event_none p hd s c e n k)

step_none : (p hd : ℕ) (s : State) (a : Actor) (e : Event) → IsNone p hd s.rests → begins (client_of a) p hd e (step s a e).reply ≡ false
    → IsNone p hd (step s a e).after.rests
unfolding step
step_none p hd s a e n k = step_by p hd s (client_of a) e (is_outside s a e) n k

run_none : (p hd : ℕ) (s : State) (h : List Entry) → IsNone p hd s.rests → begins_in s p hd h ≡ false → IsNone p hd (run s h).rests
run_none p hd s [] n k = n
run_none p hd s (x ∷ xs) n k =
    let parts = or_parts (begins (client_of x.actor) p hd x.event (step s x.actor x.event).reply) (begins_in (moved s x) p hd xs) k in
    run_none p hd (moved s x) xs (step_none p hd s x.actor x.event n parts.0) parts.1

-- ---- a Close

never : (a b : Bool) → (a && (b && false)) ≡ true → ⊥
never true true e = cc
never true false e = cc
never false b e = cc

closed_by : (p hd : ℕ) (s : State) (c h : ℕ) (g : Result Object Code)
    → closes c p hd (calls.Close h) (with_object s g (λ o. done (handle_closed s c h o))).reply ≡ true
    → IsNone p hd (with_object s g (λ o. done (handle_closed s c h o))).after.rests
closed_by p hd s c h (Err why) e = absurd (never (c == p) (h == hd) e)
closed_by p hd s c h (Ok o) e =
    let x = and_parts_of (c == p) ((h == hd) && true) e in
    let y = and_parts_of (h == hd) true x.1 in
    ap (λ (q : ℕ). has_rest (without_rest s.rests c h) q hd) (sym (eqb-true c p x.0))
    ∙ ap (λ (k : ℕ). has_rest (without_rest s.rests c h) c k) (sym (eqb-true h hd y.0)) ∙ none_closed s.rests c h

call_closes : (p hd : ℕ) (s : State) (c : ℕ) (x : Call) → closes c p hd x (called s c x).reply ≡ true → IsNone p hd (called s c x).after.rests
unfolding called
call_closes p hd s c (calls.Close h) e = closed_by p hd s c h (object_owned s c h) e
call_closes p hd s c x e = absurd (true≢false (sym e))

refused_closes : (c p hd : ℕ) (x : Call) → closes c p hd x (replies.Fail code.BadHandle) ≡ true → ⊥
refused_closes c p hd (calls.Close h) e = never (c == p) (h == hd) e
refused_closes c p hd x e = true≢false (sym e)

step_closes_by : (p hd : ℕ) (s : State) (c : ℕ) (x : Call) (b : Bool)
    → closes c p hd x (if b then refused s code.BadHandle else finished (called s c x)).reply ≡ true
    → IsNone p hd (if b then refused s code.BadHandle else finished (called s c x)).after.rests
step_closes_by p hd s c x true e = absurd (refused_closes c p hd x e)
step_closes_by p hd s c x false e = same_none p hd (called s c x).after (finished (called s c x)).after (finished_walk (called s c x)).rests
    (call_closes p hd s c x e)

step_closes : (p hd : ℕ) (s : State) (a : Actor) (x : Call) → closes_it s p hd a x ≡ true → IsNone p hd (step s a (events.Call x)).after.rests
unfolding step effect
step_closes p hd s a x e = step_closes_by p hd s (client_of a) x (is_outside s a (events.Call x)) e

pub nothing_inherited : (s : State) (h later : List Entry) (a : Actor) (x : Call) (p hd : ℕ) → closes_it (run s h) p hd a x ≡ true
    → (let one : Entry = record { actor = a; event = events.Call x } in begins_in (moved (run s h) one) p hd later ≡ false
    → rest_in (run s (h ++ one ∷ later)).rests p hd ≡ [])
nothing_inherited s h later a x p hd e k =
    let one : Entry = record { actor = a; event = events.Call x } in
    let u : State = run s h in
    none_left (run s (h ++ one ∷ later)).rests p hd
    (ap (λ (t : State). has_rest t.rests p hd) (run-append s h (one ∷ later)) ∙ run_none p hd (moved u one) later (step_closes p hd u a x e) k)

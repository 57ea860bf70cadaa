-- A place of a rack is added to the chain at most once.
use Rattle.std.proofs.Common.{◌≡◌, ◌≢◌, ℕ, zero, suc, ◌-◌, arith, sym, subst, eq-eqb, Bool, true, false, List, [], ◌∷◌, Option, Some, None, refl, ap, ◌∙◌}
use Rattle.std.specs.Prelude.{if◌then◌else◌, ◌||◌, ◌&&◌, ◌==◌, ◌++◌, nat_le, not, slice_get, slice_set, drop}
use Rattle.std.proofs.lemmas.Bool.Decides.{nat_tests}
use Rattle.con_units.specs.Units.{changed_at}
use Rattle.con_units.specs.declared.code.Code.{Code}
use Rattle.con_units.specs.declared.code.Code.TheVariants as code
use Rattle.con_events.specs.declared.actor.Actor.{Actor}
use Rattle.con_events.specs.declared.actor.Actor.TheVariants as actors
use Rattle.con_events.specs.declared.call.Call.{Call}
use Rattle.con_events.specs.declared.call.Call.TheVariants as calls
use Rattle.con_events.specs.declared.entry.Entry.{Entry}
use Rattle.con_events.specs.declared.event.Event.{Event}
use Rattle.con_events.specs.declared.event.Event.TheVariants as events
use Rattle.con_events.specs.declared.reply.Reply.{Reply}
use Rattle.con_procs.specs.Procs.{place_in, is_fresh, granted, placed, add_answer, handler_added}
use Rattle.con_procs.specs.Words.Procs.{rack_in}
use Rattle.con_procs.specs.declared.proc.Proc.{Proc}
use Rattle.con_procs.specs.declared.rack.Place.{Place}
use Rattle.con_procs.specs.declared.rack.Place.TheVariants as place
use Rattle.con_screens.specs.Resize.{all_resized}
use Rattle.con_machine.specs.State.{State}
use Rattle.con_machine.specs.Outcome.{Outcome, refused, by_answer}
use Rattle.con_machine.specs.Call.{called}
use Rattle.con_machine.specs.Reads as waits
use Rattle.con_machine.specs.Terminal.{resized}
use Rattle.con_machine.specs.Painting.{painted}
use Rattle.con_machine.specs.Step.{step, effect, is_outside, finished, client_of}
use Rattle.con_machine.specs.Words.ProcessCalls.{added_handler}
use Rattle.con_machine.specs.Client.{is_fail}
use Rattle.con_machine.specs.History.{run}
use Rattle.con_machine.specs.Turns.{Turn, turns, turn_of, moved, is_client}
use Rattle.con_machine.specs.Added.{is_added, was_added, place_in_call, place_in_event, names_place, adds, adds_to, has_added, Once, AddsOnce}
use Rattle.con_machine.specs.ProcLaws.{changed_same}
use Rattle.con_machine.specs.EventLaws.{Core, Seats, BeginsBy, begin_is, collected_seats, call_walk, fed_walk, quiet_walk, hung_walk, size_core, finished_walk}

-- each process has added the places that it had
pub record Keeps (s t : State) : Type 0 where
  pub added : (q i : ℕ) → was_added t q i ≡ was_added s q i

kept : (s : State) → Keeps s s
kept s = record { added = λ q i. refl }

then_kept : (s t u : State) → Keeps s t → Keeps t u → Keeps s u
then_kept s t u k l = record { added = λ q i. l.added q i ∙ k.added q i }

procs_kept : (s t : State) → t.procs ≡ s.procs → Keeps s t
procs_kept s t e = record { added = λ q i. ap (λ (ps : List Proc). is_added (place_in ps q i)) e }

-- a fresh place is added

set_added : (xs : List Place) (at : ℕ) → is_fresh (slice_get xs at) ≡ true → is_added (slice_get (slice_set xs at place.Chained) at) ≡ true
set_added [] at f = absurd (cc)
set_added (x ∷ xs) zero f = refl
set_added (x ∷ xs) (suc at) f = set_added xs at f

set_others : (xs : List Place) (at i : ℕ) → (at ≡ i → ⊥) → is_added (slice_get (slice_set xs at place.Chained) i) ≡ is_added (slice_get xs i)
set_others [] at i n = refl
set_others (x ∷ xs) zero zero n = absurd (n refl)
set_others (x ∷ xs) zero (suc i) n = refl
set_others (x ∷ xs) (suc at) zero n = refl
set_others (x ∷ xs) (suc at) (suc i) n = set_others xs at i (λ e. n (ap suc e))

added_at : (ps : List Proc) (j at : ℕ) → is_fresh (slice_get (rack_in (slice_get ps j)) at) ≡ true
    → is_added (slice_get (rack_in (slice_get (changed_at (λ x. record x { rack = slice_set x.rack at place.Chained }) ps j) j)) at) ≡ true
added_at [] j at f = absurd (cc)
added_at (x ∷ ps) zero at f = set_added x.rack at f
added_at (x ∷ ps) (suc j) at f = added_at ps j at f

others_at : (ps : List Proc) (j at k i : ℕ) → (j ≡ k → at ≡ i → ⊥)
    → is_added (slice_get (rack_in (slice_get (changed_at (λ x. record x { rack = slice_set x.rack at place.Chained }) ps j) k)) i)
    ≡ is_added (slice_get (rack_in (slice_get ps k)) i)
others_at [] j at k i n = refl
others_at (x ∷ ps) zero at zero i n = set_others x.rack at i (n refl)
others_at (x ∷ ps) zero at (suc k) i n = refl
others_at (x ∷ ps) (suc j) at zero i n = refl
others_at (x ∷ ps) (suc j) at (suc k) i n = others_at ps j at k i (λ e. n (ap suc e))

fresh_added : (o : Option Place) → is_fresh o ≡ true → is_added o ≡ false
fresh_added None f = absurd (cc)
fresh_added (Some place.Fresh) f = refl
fresh_added (Some place.Chained) f = absurd (cc)
fresh_added (Some place.Removed) f = absurd (cc)

added_by : (ps : List Proc) (p at : ℕ) (none : Bool) → is_fresh (slice_get (rack_in (if none then None else slice_get ps (p - 1))) at) ≡ true
    → is_added
    (slice_get
    (rack_in (if none then None
    else slice_get (if none then ps else changed_at (λ x. record x { rack = slice_set x.rack at place.Chained }) ps (p - 1)) (p - 1))) at) ≡ true
added_by ps p at true f = absurd (cc)
added_by ps p at false f = added_at ps (p - 1) at f

others_by : (ps : List Proc) (p at q i : ℕ) (none : Bool) → (p == 0) ≡ none
    → is_fresh (slice_get (rack_in (if none then None else slice_get ps (p - 1))) at) ≡ true → (p ≡ q → at ≡ i → ⊥)
    → is_added (place_in (if none then ps else changed_at (λ x. record x { rack = slice_set x.rack at place.Chained }) ps (p - 1)) q i)
    ≡ is_added (place_in ps q i)
others_by ps p at q i true z f n = refl
others_by ps p at q i false z f n = by (q == 0) refl
  where
    differ : (q == 0) ≡ false → p - 1 ≡ q - 1 → at ≡ i → ⊥
    differ y e = let some : p ≢ 0 = grind (arith, nat_tests) in let more : q ≢ 0 = grind (arith, nat_tests) in n (omega arith)

    by : (b : Bool) → (q == 0) ≡ b
        → is_added
        (slice_get (rack_in (if b then None else slice_get (changed_at (λ x. record x { rack = slice_set x.rack at place.Chained }) ps (p - 1)) (q - 1))) i)
        ≡ is_added (slice_get (rack_in (if b then None else slice_get ps (q - 1))) i)
    by true y = refl
    by false y = others_at ps (p - 1) at (q - 1) i (differ y)

-- ---- each event but an add

begun_kept : (s : State) (p : ℕ) (b : Bool) (t : State) → BeginsBy b s p t → Keeps s t
begun_kept s p true t k = procs_kept s t (ap (λ (x : State). x.procs) k)
begun_kept s p false t k = procs_kept s t (ap (λ (x : Seats). x.1) k.is)

took_kept : (s : State) (p : ℕ) → Keeps s (waits.took_ctrl s p).after
unfolding waits.took_ctrl
took_kept s p = record { added = λ q i. changed_same (λ x. record x { pending = drop 1 x.pending }) (λ x i. refl) s.procs p q i }

left_kept : (s : State) (p status : ℕ) → Keeps s (waits.left s p status)
unfolding waits.left
left_kept s p status = record { added = λ q i. changed_same (λ x. record x { ended = Some status }) (λ x i. refl) s.procs p q i }

event_keeps : (s : State) (p : ℕ) (e : Event) → place_in_event e ≡ None → Keeps s (effect s p e).after
unfolding effect resized painted
event_keeps s p (events.Call c) n = record { added = (call_walk s p c).added n }
event_keeps s p (events.Begin w) n = begun_kept s p (is_fail (waits.began s p w).reply) (waits.began s p w).after (begin_is s p w)
event_keeps s p events.Collect n = procs_kept s (waits.collected s p).after (ap (λ (x : Seats). x.1) (collected_seats s p))
event_keeps s p events.TakeCtrl n = took_kept s p
event_keeps s p (events.Exit status) n = left_kept s p status
event_keeps s p (events.Feed bytes) n = record { added = (fed_walk s bytes).added }
event_keeps s p events.Quiet n = record { added = (quiet_walk s).added }
event_keeps s p (events.Resize size) n =
    procs_kept s (resized s size) (ap (λ (c : Core). c.procs) (size_core (record s { buffers = all_resized s.buffers size; resized = true })))
event_keeps s p events.Ask n = record { added = λ q i. refl }
event_keeps s p events.Hangup n = record { added = (hung_walk s).added }
event_keeps s p events.Drained n = record { added = λ q i. refl }
event_keeps s p events.Paint n = record { added = λ q i. refl }

finished_keeps : (o : Outcome) → Keeps o.after (finished o).after
finished_keeps o = record { added = (finished_walk o).added }

kept_by : (s : State) (out : Bool) (o : Outcome) → Keeps s o.after → Keeps s (if out then refused s code.BadHandle else finished o).after
kept_by s true o k = kept s
kept_by s false o k = then_kept s o.after (finished o).after k (finished_keeps o)

step_keeps : (s : State) (a : Actor) (e : Event) → place_in_event e ≡ None → Keeps s (step s a e).after
unfolding step
step_keeps s a e n = kept_by s (is_outside s a e) (effect s (client_of a) e) (event_keeps s (client_of a) e n)

-- ---- an add

once_kept : (s t : State) (b : Bool) (q i : ℕ) → Keeps s t → b ≡ false → Once s t b q i
once_kept s t true q i k n = absurd (cc)
once_kept s t false q i k n = record { first = λ e. absurd (cc); after' = k.added q i }

once_then : (s t u : State) (b : Bool) (q i : ℕ) → Once s t b q i → Keeps t u → Once s u b q i
once_then s t u b q i o k = record { first = o.first; after' = k.added q i ∙ o.after' }

none_of : (x y : Bool) → (x && (y && false)) ≡ false
none_of true true = refl
none_of true false = refl
none_of false true = refl
none_of false false = refl

done_once : (s : State) (p at q i : ℕ) (x y : Bool) → (p == q) ≡ x → (at == i) ≡ y → is_fresh (place_in s.procs p at) ≡ true
    → Once s (record s { procs = placed s.procs p at place.Chained }) (x && (y && true)) q i
done_once s p at q i true true e f fresh =
    let one : p ≡ q = grind (arith, nat_tests) in
    let same : at ≡ i = grind (arith, nat_tests) in
    let P : ℕ → Type 0 = λ z. Once s (record s { procs = placed s.procs p at place.Chained }) true z i in
    let Q : ℕ → Type 0 = λ z. Once s (record s { procs = placed s.procs p at place.Chained }) true p z in
    subst P one (subst Q same (record { first = λ _. fresh_added (place_in s.procs p at) fresh; after' = added_by s.procs p at (p == 0) fresh }))
done_once s p at q i true false e f fresh =
    let differ : at ≢ i = grind (arith, nat_tests) in
    record { first = λ n. absurd (cc); after' = others_by s.procs p at q i (p == 0) refl fresh (λ _ same. differ same) }
done_once s p at q i false y e f fresh =
    let differ : p ≢ q = grind (arith, nat_tests) in
    record { first = λ n. absurd (cc); after' = others_by s.procs p at q i (p == 0) refl fresh (λ same _. differ same) }

granted_once : (s : State) (p at q i : ℕ) (f : Bool) → is_fresh (place_in s.procs p at) ≡ f
    → Once s (by_answer s (granted f) (record s { procs = if f then placed s.procs p at place.Chained else s.procs })).after
    ((p == q)
    && ((at == i) && not (is_fail (by_answer s (granted f) (record s { procs = if f then placed s.procs p at place.Chained else s.procs })).reply))) q i
granted_once s p at q i true e = done_once s p at q i (p == q) (at == i) refl refl e
granted_once s p at q i false e = once_kept s s ((p == q) && ((at == i) && false)) q i (kept s) (none_of (p == q) (at == i))

-- what an outcome adds, where process p adds this place
abbrev pub AddsBy : State → ℕ → ℕ → Outcome → ℕ → ℕ → Type 0
AddsBy s p at o q i = Once s o.after ((p == q) && ((at == i) && not (is_fail o.reply))) q i

refused_once : (s : State) (p at : ℕ) (why : Code) (q i : ℕ) → AddsBy s p at (refused s why) q i
refused_once s p at why q i = once_kept s s ((p == q) && ((at == i) && false)) q i (kept s) (none_of (p == q) (at == i))

if_once : (s : State) (p at q i : ℕ) (b : Bool) (x y : Outcome) → AddsBy s p at x q i → AddsBy s p at y q i → AddsBy s p at (if b then x else y) q i
if_once s p at q i true x y k l = k
if_once s p at q i false x y k l = l

handler_once : (s : State) (p at q i : ℕ) → AddsBy s p at (added_handler s p at) q i
handler_once s p at q i =
    let o = by_answer s (add_answer s.procs p at) (record s { procs = handler_added s.procs p at }) in
    if_once s p at q i s.closed (refused s code.Closed) (if nat_le at 255 then o else refused s code.BadArgument) (refused_once s p at code.Closed q i)
    (if_once s p at q i (nat_le at 255) o (refused s code.BadArgument) (granted_once s p at q i (is_fresh (place_in s.procs p at)) refl)
    (refused_once s p at code.BadArgument q i))

finished_once : (s : State) (p at q i : ℕ) (o : Outcome) → AddsBy s p at o q i → AddsBy s p at (finished o) q i
finished_once s p at q i o k = once_then s o.after (finished o).after ((p == q) && ((at == i) && not (is_fail o.reply))) q i k (finished_keeps o)

effect_once : (s : State) (p at q i : ℕ) → AddsBy s p at (effect s p (events.Call (calls.HandlerAdd at))) q i
unfolding effect called
effect_once s p at q i = handler_once s p at q i

add_once : (s : State) (a : Actor) (at q i : ℕ) → AddsOnce s a (events.Call (calls.HandlerAdd at)) q i
unfolding step
add_once s (actors.Client p) at q i =
    let e = events.Call (calls.HandlerAdd at) in
    if_once s p at q i (is_outside s (actors.Client p) e) (refused s code.BadHandle) (finished (effect s p e)) (refused_once s p at code.BadHandle q i)
    (finished_once s p at q i (effect s p e) (effect_once s p at q i))
add_once s actors.Terminal at q i = once_kept s s false q i (kept s) refl
add_once s actors.Painter at q i = once_kept s s false q i (kept s) refl

-- ---- each event

adding_is : (c : Call) (at : ℕ) → place_in_call c ≡ Some at → c ≡ calls.HandlerAdd at
adding_is (calls.HandlerAdd place) at e = let same : place ≡ at = cc in ap calls.HandlerAdd same
adding_is c at e = absurd (cc)

no_add : (x y : Bool) → (x && (false && y)) ≡ false
no_add true y = refl
no_add false y = refl

none_added : (q i : ℕ) (a : Actor) (e : Event) (reply : Reply) → place_in_event e ≡ None → adds_to q i a e reply ≡ false
none_added q i a e reply n = ap (λ (o : Option ℕ). is_client q a && (names_place i o && not (is_fail reply))) n ∙ no_add (is_client q a) (not (is_fail reply))

quiet_once : (s : State) (a : Actor) (e : Event) (q i : ℕ) → place_in_event e ≡ None → AddsOnce s a e q i
quiet_once s a e q i n = once_kept s (step s a e).after (adds_to q i a e (step s a e).reply) q i (step_keeps s a e n) (none_added q i a e (step s a e).reply n)

call_once : (s : State) (a : Actor) (c : Call) (q i : ℕ) (o : Option ℕ) → place_in_call c ≡ o → AddsOnce s a (events.Call c) q i
call_once s a c q i None n = quiet_once s a (events.Call c) q i n
call_once s a c q i (Some at) n =
    let P : Call → Type 0 = λ x. AddsOnce s a (events.Call x) q i in
    subst P (sym (adding_is c at n)) (add_once s a at q i)

-- a place is added at most once
pub step_once : (s : State) (a : Actor) (e : Event) (q i : ℕ) → AddsOnce s a e q i
step_once s a (events.Call c) q i = call_once s a c q i (place_in_call c) refl
step_once s a e q i = quiet_once s a e q i refl

-- ---- histories

pub has_added-append : (i : ℕ) (xs ys : List Turn) → has_added i (xs ++ ys) ≡ (has_added i xs || has_added i ys)
has_added-append i [] ys = refl
has_added-append i (t ∷ xs) ys =
    ap (λ (b : Bool). adds i t.event t.reply || b) (has_added-append i xs ys) ∙ or_assoc (adds i t.event t.reply) (has_added i xs) (has_added i ys)
  where
    or_assoc : (a b c : Bool) → (a || (b || c)) ≡ ((a || b) || c)
    or_assoc true b c = refl
    or_assoc false b c = refl

joined_by : (mine add was more : Bool) → (((mine && add) || was) || more) ≡ (was || (if mine then add || more else more))
joined_by true true true true = refl
joined_by true true true false = refl
joined_by true true false true = refl
joined_by true true false false = refl
joined_by true false true true = refl
joined_by true false true false = refl
joined_by true false false true = refl
joined_by true false false false = refl
joined_by false add true true = refl
joined_by false add true false = refl
joined_by false add false true = refl
joined_by false add false false = refl

told_by : (mine : Bool) (i : ℕ) (t : Turn) (ts : List Turn)
    → has_added i (if mine then t ∷ ts else ts) ≡ (if mine then adds i t.event t.reply || has_added i ts else has_added i ts)
told_by true i t ts = refl
told_by false i t ts = refl

-- what a process has added is what it had, and what its entries added
pub run_added : (s : State) (h : List Entry) (p i : ℕ) → was_added (run s h) p i ≡ (was_added s p i || has_added i (turns s p h))
run_added s [] p i = or_none (was_added s p i)
  where
    or_none : (b : Bool) → b ≡ (b || false)
    or_none true = refl
    or_none false = refl
run_added s (x ∷ xs) p i =
    let mine = is_client p x.actor in
    let add = adds i x.event (step s x.actor x.event).reply in
    let more = has_added i (turns (moved s x) p xs) in
    run_added (moved s x) xs p i
    ∙ (ap (λ (b : Bool). b || more) (step_once s x.actor x.event p i).after'
    ∙ (joined_by mine add (was_added s p i) more
    ∙ ap (λ (b : Bool). was_added s p i || b) (sym (told_by mine i (turn_of s p x) (turns (moved s x) p xs)))))

none_before : (was more : Bool) → (was || more) ≡ false → more ≡ false
none_before true more e = absurd (cc)
none_before false more e = e

-- a place that is added was added by no entry before
pub added_first : (s : State) (h : List Entry) (p i : ℕ) (e : Event) → adds i e (step (run s h) (actors.Client p) e).reply ≡ true
    → has_added i (turns s p h) ≡ false
added_first s h p i e a =
    let mine : (p == p) ≡ true = eq-eqb p p refl in
    let b : adds_to p i (actors.Client p) e (step (run s h) (actors.Client p) e).reply ≡ true =
    ap (λ (b : Bool). b && adds i e (step (run s h) (actors.Client p) e).reply) mine ∙ a in
    none_before (was_added s p i) (has_added i (turns s p h)) (sym (run_added s h p i) ∙ (step_once (run s h) (actors.Client p) e p i).first b)

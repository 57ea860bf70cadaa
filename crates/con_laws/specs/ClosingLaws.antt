-- Once the terminal's side has ended, not all of the attached wait for reads.
use Rattle.std.proofs.Common.{◌≡◌, ◌⊎◌, ℕ, zero, suc, ◌+◌, ◌-◌, ◌<◌, ◌≤◌, Bool, true, false, List, [], ◌∷◌, map, drop, length, Option, Some, None, refl, sym}
use Rattle.std.proofs.Common.{ap, subst, ◌∙◌, inl, inr, arith}
use Rattle.std.specs.Prelude.{if◌then◌else◌, ◌&&◌, ◌||◌, nat_lt, not, slice_get}
use Rattle.std.proofs.lemmas.Option.{slice_get_within}
use Rattle.std.proofs.lemmas.Bool.Decides.{nat_tests}
use Rattle.con_units.specs.declared.code.Code.TheVariants as code
use Rattle.con_events.specs.Session.{Clients}
use Rattle.con_events.specs.declared.actor.Actor.{Actor}
use Rattle.con_events.specs.declared.actor.Actor.TheVariants as actors
use Rattle.con_events.specs.declared.entry.Entry.{Entry}
use Rattle.con_events.specs.declared.event.Event.{Event}
use Rattle.con_events.specs.declared.event.Event.TheVariants as events
use Rattle.con_events.specs.declared.script.Script.{Script}
use Rattle.con_procs.specs.Procs.{is_attached, is_live, ids_from, ids_of, signalled}
use Rattle.con_procs.specs.Words.Procs.{live_in}
use Rattle.con_procs.specs.declared.proc.Proc.{Proc}
use Rattle.con_readers.specs.Reads.{all_closed, place_of, is_open, has_done, has_undone}
use Rattle.con_readers.specs.Words.Reads.{is_of, done_in, undone_in}
use Rattle.con_readers.specs.declared.open.Open.{Open}
use Rattle.con_machine.specs.State.{State}
use Rattle.con_machine.specs.Words.State.{behind_first, procs_of}
use Rattle.con_machine.specs.Outcome.{Outcome, refused}
use Rattle.con_machine.specs.Closing.{hung_up, closing, all_wait}
use Rattle.con_machine.specs.Reads as waits
use Rattle.con_machine.specs.Serving.{settled_state}
use Rattle.con_machine.specs.Step.{step, effect, is_outside, finished, client_of}
use Rattle.con_machine.specs.History.{run}
use Rattle.con_machine.specs.Turns.{moved, sent, is_last_sent, has_ended}
use Rattle.con_machine.specs.Client.{is_fail}
use Rattle.con_machine.specs.Follows.{session_start}
use Rattle.con_laws.specs.Opens.{WaitsOrGone}
use Rattle.con_machine.specs.Moves.{drains_by}
use Rattle.con_laws.specs.PictureLaws.{step_moves}
use Rattle.con_machine.specs.ProcLaws.{as_many}
use Rattle.con_machine.specs.EventLaws.{AreDone, removed_done, IsQuiet, Folk, Seats, BeginsBy, begin_is, collected_seats, event_folk, finished_walk}

-- ---- reads that are all done

none_undone : (os : List Open) (k : ℕ) → AreDone os → undone_in (slice_get os k) ≡ false
none_undone [] k d = refl
none_undone (o ∷ os) zero d = ap not d.0
none_undone (o ∷ os) (suc k) d = none_undone os k d.1

-- ---- what no event undoes

-- the number of processes stays, a closed console stays closed, and no read of it waits
record Goes (s t : State) : Type 0 where
  count : length t.procs ≡ length s.procs
  closed : s.closed ≡ true → t.closed ≡ true
  quiet : IsQuiet s → IsQuiet t

goes : (s : State) → Goes s s
goes s = record { count = refl; closed = λ c. c; quiet = λ k. k }

then_goes : (s t u : State) → Goes s t → Goes t u → Goes s u
then_goes s t u x y = record { count = y.count ∙ x.count; closed = λ c. y.closed (x.closed c); quiet = λ k. y.quiet (x.quiet k) }

folk_goes : (s t : State) → Folk s t → Goes s t
folk_goes s t k = record { count = k.procs.count; closed = k.closed; quiet = k.quiet }

finished_goes : (o : Outcome) → Goes o.after (finished o).after
finished_goes o = folk_goes o.after (finished o).after (finished_walk o).folk

-- ---- a client's own events

-- a read begins in an open console alone
begun_goes : (s : State) (p : ℕ) (b : Bool) (t : State) → BeginsBy b s p t → Goes s t
begun_goes s p true t k = subst (λ (x : State). Goes s x) (sym k) (goes s)
begun_goes s p false t k =
    let closed : t.closed ≡ s.closed = ap (λ (x : Seats). x.3) k.is in
    record {
      count =
          ap (λ (x : Seats). length x.1) k.is;
      closed = λ c. closed ∙ c;
      quiet = λ q c. absurd (let e : false ≡ true = sym k.now ∙ (sym closed ∙ c) in cc);
    }

collect_goes : (s : State) (p : ℕ) → Goes s (waits.collected s p).after
collect_goes s p =
    let k = collected_seats s p in
    let closed : (waits.collected s p).after.closed ≡ s.closed = ap (λ (x : Seats). x.3) k in
    record {
      count = ap (λ (x : Seats). length x.1) k;
      closed = λ c. closed ∙ c;
      quiet = λ q c. subst AreDone (sym (ap (λ (x : Seats). x.2) k)) (removed_done s.reads (place_of s.reads p) (q (sym closed ∙ c)));
    }

take_goes : (s : State) (p : ℕ) → Goes s (waits.took_ctrl s p).after
unfolding waits.took_ctrl
take_goes s p = record { count = as_many (λ x. record x { pending = drop 1 x.pending }) s.procs p; closed = λ c. c; quiet = λ q. q }

leave_goes : (s : State) (p status : ℕ) → Goes s (waits.left s p status)
unfolding waits.left
leave_goes s p status =
    record {
      count =
          as_many (λ x. record x { ended = Some status }) s.procs p;
      closed = λ c. c;
      quiet = λ k c. removed_done s.reads (place_of s.reads p) (k c);
    }

-- ---- each event

effect_goes : (s : State) (p : ℕ) (e : Event) → Goes s (effect s p e).after
unfolding effect
effect_goes s p (events.Begin w) = begun_goes s p (is_fail (waits.began s p w).reply) (waits.began s p w).after (begin_is s p w)
effect_goes s p events.Collect = collect_goes s p
effect_goes s p events.TakeCtrl = take_goes s p
effect_goes s p (events.Exit status) = leave_goes s p status
effect_goes s p e = folk_goes s (effect s p e).after (event_folk s p e refl)

-- ---- what holds after every history

-- n processes; closed, no read waits; where the terminal's side has ended it is closed or drained; and drained it is closed,
-- or not all wait
record Sound (s : State) (over : Bool) (n : ℕ) : Type 0 where
  count : length s.procs ≡ n
  quiet : IsQuiet s
  ends : over ≡ true → (s.closed ≡ true) ⊎ (s.drained ≡ true)
  due : s.drained ≡ true → (s.closed ≡ true) ⊎ (all_wait s.reads (ids_of s.procs) ≡ false)

shut : (s : State) (b : Bool) → s.closed ≡ b
    → (if b then s else record s { closed = true; procs = signalled s.procs 2 0; reads = all_closed s.reads }).closed ≡ true
shut s true c = c
shut s false c = refl

not_both : (a b : Bool) → (a && b) ≡ false → a ≡ true → b ≡ false
not_both true b e i = e
not_both false b e i = absurd (cc)

due_by : (s : State) (b : Bool) → (s.drained && all_wait s.reads (ids_of s.procs)) ≡ b → let t : State =
    (if b then hung_up s else s) in t.drained ≡ true → (t.closed ≡ true) ⊎ (all_wait t.reads (ids_of t.procs) ≡ false)
due_by s true e d = inl (shut s s.closed refl)
due_by s false e d = inr (not_both s.drained (all_wait s.reads (ids_of s.procs)) e d)

closing_due : (s : State) → (closing s).drained ≡ true → ((closing s).closed ≡ true) ⊎ (all_wait (closing s).reads (ids_of (closing s).procs) ≡ false)
unfolding closing
closing_due s = due_by s (s.drained && all_wait s.reads (ids_of s.procs)) refl

-- whether the terminal's side has ended after an entry
abbrev ended_by : Bool → Actor → Event → Bool
ended_by over (actors.Client q) e = over
ended_by over actors.Terminal e = is_last_sent e
ended_by over actors.Painter e = over

abbrev Ends : State → Type 0
Ends s = (s.closed ≡ true) ⊎ (s.drained ≡ true)

-- drained, it stays so
drained_stays : (e : Event) (b : Bool) → b ≡ true → drains_by b e ≡ true
drained_stays events.Drained b d = refl
drained_stays e b d = d

step_goes : (s : State) (a : Actor) (e : Event) → Goes s (step s a e).after
unfolding step
step_goes s a e = by_outside (is_outside s a e)
  where
    by_outside : (b : Bool) → Goes s (if b then refused s code.BadHandle else finished (effect s (client_of a) e)).after
    by_outside true = goes s
    by_outside false =
        then_goes s (effect s (client_of a) e).after (finished (effect s (client_of a) e)).after (effect_goes s (client_of a) e)
        (finished_goes (effect s (client_of a) e))

stays_ended : (s : State) (a : Actor) (e : Event) → Ends s → Ends (step s a e).after
stays_ended s a e (inl c) = inl ((step_goes s a e).closed c)
stays_ended s a e (inr d) = inr ((step_moves s a e).ends ∙ drained_stays e s.drained d)

hangup_ends : (s : State) (a : Actor) → (step s a events.Hangup).after.closed ≡ true
unfolding step effect
hangup_ends s a = (finished_goes (effect s (client_of a) events.Hangup)).closed (shut s s.closed refl)

last_ends : (s : State) (a : Actor) (e : Event) → is_last_sent e ≡ true → Ends (step s a e).after
last_ends s a events.Hangup i = inl (hangup_ends s a)
last_ends s a events.Drained i = inr (step_moves s a events.Drained).ends
last_ends s a e i = absurd (cc)

entry_ends : (s : State) (a : Actor) (e : Event) (over : Bool) → (over ≡ true → Ends s) → ended_by over a e ≡ true → Ends (step s a e).after
entry_ends s (actors.Client q) e over k i = stays_ended s (actors.Client q) e (k i)
entry_ends s actors.Terminal e over k i = last_ends s actors.Terminal e i
entry_ends s actors.Painter e over k i = stays_ended s actors.Painter e (k i)

abbrev IsDue : State → Type 0
IsDue s = s.drained ≡ true → (s.closed ≡ true) ⊎ (all_wait s.reads (ids_of s.procs) ≡ false)

step_due : (s : State) (a : Actor) (e : Event) → IsDue s → IsDue (step s a e).after
unfolding step
step_due s a e k = by_outside (is_outside s a e)
  where
    by_outside : (b : Bool) → IsDue (if b then refused s code.BadHandle else finished (effect s (client_of a) e)).after
    by_outside true = k
    by_outside false = closing_due (settled_state (effect s (client_of a) e).after)

step_sound : (s : State) (a : Actor) (e : Event) (over : Bool) (n : ℕ) → Sound s over n → Sound (step s a e).after (ended_by over a e) n
step_sound s a e over n k =
    let g = step_goes s a e in record { count = g.count ∙ k.count; quiet = g.quiet k.quiet; ends = entry_ends s a e over k.ends; due = step_due s a e k.due }

run_by : (s : State) (a : Actor) (e : Event) (xs : List Entry) (over : Bool) (n : ℕ)
    → Sound (run (step s a e).after xs) (has_ended (ended_by over a e) (sent xs)) n
    → Sound (run (step s a e).after xs) (has_ended over (sent ((let x : Entry = record { actor = a; event = e } in x) ∷ xs))) n
run_by s (actors.Client q) e xs over n k = k
run_by s actors.Terminal e xs over n k = k
run_by s actors.Painter e xs over n k = k

run_sound : (s : State) (h : List Entry) (over : Bool) (n : ℕ) → Sound s over n → Sound (run s h) (has_ended over (sent h)) n
run_sound s [] over n k = k
run_sound s (x ∷ xs) over n k =
    run_by s x.actor x.event xs over n (run_sound (moved s x) xs (ended_by over x.actor x.event) n (step_sound s x.actor x.event over n k))

-- ---- all wait

-- a read that is open and not done waits
open_at : (o : Open) (os : List Open) (p : ℕ) (b : Bool) → is_of p o ≡ b → (b || is_open os p) ≡ true
    → (is_open os p ≡ true → done_in (slice_get os (place_of os p)) ≡ false → undone_in (slice_get os (place_of os p)) ≡ true) → (n : ℕ)
    → n ≡ suc (place_of os p)
    → done_in (slice_get (o ∷ os) (if not b then n else 0)) ≡ false → undone_in (slice_get (o ∷ os) (if not b then n else 0)) ≡ true
open_at o os p true i found rest n e d = ap not d
open_at o os p false i found rest n e d = let P : ℕ → Type 0 = λ m. undone_in (slice_get (o ∷ os) m) ≡ true in let Q : ℕ → Type 0 =
    λ m. done_in (slice_get (o ∷ os) m) ≡ false in subst P (sym e) (rest found (subst Q e d))

undone : (os : List Open) (p : ℕ) → is_open os p ≡ true → has_done os p ≡ false → has_undone os p ≡ true
undone [] p found d = absurd (cc)
undone (o ∷ os) p found d = open_at o os p (is_of p o) refl found (undone os p) (1 + place_of os p) (omega arith) d

waits_in : (s : State) (p : ℕ) → WaitsOrGone s p → is_attached s.procs p ≡ true → has_undone s.reads p ≡ true
waits_in s p (inl gone) a = absurd (let e : false ≡ true = sym gone ∙ a in cc)
waits_in s p (inr w) a = undone s.reads p w.0 w.1

one_waits : (os : List Open) (k : ℕ) (ids : List ℕ) (b : Bool) → (b ≡ true → has_undone os k ≡ true) → all_wait os ids ≡ true
    → all_wait os (if b then k ∷ ids else ids) ≡ true
one_waits os k ids true f e = rw (f refl, e) refl
one_waits os k ids false f e = e

all_wait_from : (os : List Open) (ps : List Proc) (k : ℕ) → ((j : ℕ) → live_in (slice_get ps j) ≡ true → has_undone os (k + j) ≡ true)
    → all_wait os (ids_from k ps) ≡ true
unfolding ids_from
all_wait_from os [] k f = refl
all_wait_from os (p ∷ ps) k f =
    let P : ℕ → Type 0 = λ m. has_undone os m ≡ true in
    let here : k + 0 ≡ k = omega arith in
    let next : (j : ℕ) → k + suc j ≡ k + 1 + j = λ j. omega arith in
    one_waits os k (ids_from (k + 1) ps) (is_live p) (λ l. subst P here (f 0 l)) (all_wait_from os ps (k + 1) (λ j l. subst P (next j) (f (suc j) l)))

live_within : (ps : List Proc) (j : ℕ) → live_in (slice_get ps j) ≡ true → j < length ps
live_within ps j l = by_place (slice_get ps j) refl l
  where
    by_place : (o : Option Proc) → slice_get ps j ≡ o → live_in o ≡ true → j < length ps
    by_place None e m = absurd (cc)
    by_place (Some p) e m = slice_get_within ps j p e

attached_from : (ps : List Proc) (j : ℕ) → live_in (slice_get ps j) ≡ true → is_attached ps (1 + j) ≡ true
attached_from ps j l =
    let P : ℕ → Type 0 = λ m. live_in (slice_get ps m) ≡ true in
    let back : j ≡ 1 + j - 1 = omega arith in
    let first : nat_lt 0 (1 + j) ≡ true = grind (arith, nat_tests) in
    both (nat_lt 0 (1 + j)) (live_in (slice_get ps (1 + j - 1))) first (subst P back l)
  where
    both : (a b : Bool) → a ≡ true → b ≡ true → (a && b) ≡ true
    both a b e f = rw (e, f) refl

all_do_wait : (s : State) (n : ℕ) → length s.procs ≡ n → ((p : ℕ) → 0 < p → p ≤ n → WaitsOrGone s p) → all_wait s.reads (ids_of s.procs) ≡ true
all_do_wait s n c f =
    all_wait_from s.reads s.procs 1
    (λ j l. let m = live_within s.procs j l in let low : 0 < 1 + j =
    omega arith in let high : 1 + j ≤ n = omega (arith, m, c) in waits_in s (1 + j) (f (1 + j) low high) (attached_from s.procs j l))

-- ---- from the beginning of a session

as_many_scripts : (ss : List Script) (racks : List ℕ) → length (procs_of ss racks) ≡ length ss
as_many_scripts [] racks = refl
as_many_scripts (s ∷ ss) racks = ap suc (as_many_scripts ss (behind_first racks))

sound_begun : (session : Clients) (racks : List (List ℕ)) → Sound (session_start session racks) false (length session.scripts)
sound_begun session racks =
    record {
      count =
          as_many_scripts session.scripts (map (λ kinds. length kinds) racks);
      quiet = λ c. absurd (cc);
      ends = λ e. absurd (cc);
      due = λ e. absurd (cc);
    }

-- where no read is undone, who waits or is gone is gone
gone_or : (s : State) (p : ℕ) → AreDone s.reads → WaitsOrGone s p → is_attached s.procs p ≡ false
gone_or s p d (inl gone) = gone
gone_or s p d (inr w) = absurd (let e : true ≡ false = sym (undone s.reads p w.0 w.1) ∙ none_undone s.reads (place_of s.reads p) d in cc)

none_by : (s : State) (n : ℕ) → Sound s true n → ((p : ℕ) → 0 < p → p ≤ n → WaitsOrGone s p) → Ends s → (p : ℕ) → 0 < p → p ≤ n → is_attached s.procs p ≡ false
none_by s n k f (inl c) p low high = gone_or s p (k.quiet c) (f p low high)
none_by s n k f (inr d) p low high = elim (k.due d) [
  | inl c ↦ gone_or s p (k.quiet c) (f p low high)
  | inr w ↦ absurd (let e : false ≡ true = sym w ∙ all_do_wait s n k.count f in cc)
]

-- after a history after which the terminal's side has ended, they are gone if each is gone or waits
pub none_waits : (session : Clients) (racks : List (List ℕ)) (h : List Entry) → has_ended false (sent h) ≡ true
    → ((p : ℕ) → 0 < p → p ≤ length session.scripts → WaitsOrGone (run (session_start session racks) h) p)
    → (p : ℕ) → 0 < p → p ≤ length session.scripts → is_attached (run (session_start session racks) h).procs p ≡ false
none_waits session racks h over f p low high =
    let s = run (session_start session racks) h in
    let n = length session.scripts in
    let P : Bool → Type 0 = λ b. Sound s b n in
    let k = subst P over (run_sound (session_start session racks) h false n (sound_begun session racks)) in
    none_by s n k f (k.ends refl) p low high

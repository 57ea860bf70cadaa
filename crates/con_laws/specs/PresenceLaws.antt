-- What each event does to what a client knows of itself.
use Rattle.std.proofs.Common.{◌≡◌, ◌≢◌, ℕ, zero, suc, ◌+◌, ◌-◌, ◌≤◌, Bool, true, false, List, [], ◌∷◌, ◌++◌, Some, None, refl, sym, ap, ◌∙◌, subst, arith}
use Rattle.std.proofs.Common.{true≢false, zero-add}
use Rattle.std.specs.Prelude.{if◌then◌else◌, ◌||◌, ◌&&◌, ◌==◌, nat_lt, not, drop, is_some, slice_get}
use Rattle.std.specs.List.{remove}
use Rattle.std.proofs.lemmas.Bool.{eq-eqb}
use Rattle.std.proofs.lemmas.Bool.Decides.{nat_tests}
use Rattle.con_units.specs.Units.{changed_at}
use Rattle.con_units.specs.declared.code.Code.TheVariants as code
use Rattle.con_events.specs.declared.actor.Actor.{Actor}
use Rattle.con_events.specs.declared.actor.Actor.TheVariants as actors
use Rattle.con_events.specs.declared.entry.Entry.{Entry}
use Rattle.con_events.specs.declared.event.Event.{Event}
use Rattle.con_events.specs.declared.event.Event.TheVariants as events
use Rattle.con_events.specs.declared.event.Wanted.{Wanted}
use Rattle.con_procs.specs.AttachedLaws.{attached_laws}
use Rattle.con_procs.specs.Procs.{is_attached, changed, first_pending, proc_of}
use Rattle.con_procs.specs.Words.Procs.{pending_in}
use Rattle.con_procs.specs.declared.proc.Proc.{Proc}
use Rattle.con_readers.specs.Distinct.{processes_in, times_in}
use Rattle.con_readers.specs.Reads.{is_open, without, place_of, begun}
use Rattle.con_readers.specs.declared.open.Open.{Open}
use Rattle.con_readers.specs.declared.open.OpenRead.{OpenRead}
use Rattle.con_machine.specs.State.{State}
use Rattle.con_machine.specs.Outcome.{Outcome, refused, done}
use Rattle.con_machine.specs.Reads.{began, collected, took_ctrl, left}
use Rattle.con_machine.specs.Step.{step, effect, is_outside, is_clients, finished, client_of}
use Rattle.con_machine.specs.History.{run}
use Rattle.con_machine.specs.Client.{is_fail}
use Rattle.con_machine.specs.Turns.{is_client, is_pending}
use Rattle.con_laws.specs.Presence.{Stays, OthersStay, Does, OwnDoes, IsSingle, attached_by, reads_by}
use Rattle.con_machine.specs.ProcLaws.{changed_waits}
use Rattle.con_machine.specs.EventLaws.{Folk, Seats, IsBegun, BeginsBy, begin_is, collected_seats, is_personal, event_folk, finished_walk}

-- ---- events that wait

-- another process's event is taken
other_at : (f : Proc → Proc) (ps : List Proc) (k i : ℕ) → k ≢ i → slice_get (changed_at f ps k) i ≡ slice_get ps i
other_at f [] k i ne = refl
other_at f (x ∷ ps) zero zero ne = absurd (ne refl)
other_at f (x ∷ ps) zero (suc i) ne = refl
other_at f (x ∷ ps) (suc k) zero ne = refl
other_at f (x ∷ ps) (suc k) (suc i) ne = other_at f ps k i (λ e. ne (ap suc e))

other_proc : (f : Proc → Proc) (ps : List Proc) (k p : ℕ) → (k == p) ≡ false → proc_of (changed f ps k) p ≡ proc_of ps p
other_proc f ps k p ne = by_none (k == 0) (p == 0) refl refl
  where
    by_none : (b c : Bool) → (k == 0) ≡ b → (p == 0) ≡ c
        → (if c then None else slice_get (if b then ps else changed_at f ps (k - 1)) (p - 1)) ≡ (if c then None else slice_get ps (p - 1))
    by_none b true z y = refl
    by_none true false z y = refl
    by_none false false z y = other_at f ps (k - 1) (p - 1) (
        let one : k ≢ 0 = grind (arith, nat_tests) in
        let two : p ≢ 0 = grind (arith, nat_tests) in
        let not_same : k ≢ p = grind (arith, nat_tests) in
        λ same. omega arith)

-- ---- whose reads there are

abbrev one_if : Bool → ℕ
one_if b = if b then 1 else 0

open_step : (b r : Bool) (n : ℕ) → r ≡ nat_lt 0 n → (b || r) ≡ nat_lt 0 ((if b then 1 else 0) + n)
open_step true r n e = sym (grind (arith, nat_tests))
open_step false r n e = e ∙ ap (λ m. nat_lt 0 m) (sym (zero-add n))

-- a process that has a read stands among the processes of reads
open_times : (os : List Open) (p : ℕ) → is_open os p ≡ nat_lt 0 (times_in p (processes_in os))
open_times [] p = refl
open_times (o ∷ os) p = open_step (o.process == p) (is_open os p) (times_in p (processes_in os)) (open_times os p)

last_times : (os : List Open) (q p : ℕ) (read : OpenRead) → times_in p (processes_in (os ++ begun q read ∷ [])) ≡ times_in p (processes_in os) + one_if (q == p)
last_times [] q p read = omega arith
last_times (o ∷ os) q p read = omega (arith, last_times os q p read)

other_by : (o : Open) (os : List Open) (q p : ℕ) (m : Bool) → (o.process == q) ≡ m → (q == p) ≡ false
    → times_in p (processes_in (without os q)) ≡ times_in p (processes_in os)
    → (n : ℕ) → n ≡ suc (place_of os q) → times_in p (processes_in (remove (o ∷ os) (if not m then n else 0))) ≡ times_in p (processes_in (o ∷ os))
other_by o os q p true m ne rest n at =
    let same : o.process ≡ q = grind (arith, nat_tests) in
    let other : (o.process == p) ≡ false = ap (λ x. x == p) same ∙ ne in
    rw other (sym (zero-add (times_in p (processes_in os))))
other_by o os q p false m ne rest n at =
    subst (λ k. times_in p (processes_in (remove (o ∷ os) k)) ≡ times_in p (processes_in (o ∷ os))) (sym at)
    (ap (λ k. (if o.process == p then 1 else 0) + k) rest)

-- one goes, and it is not this process's
other_gone : (os : List Open) (q p : ℕ) → (q == p) ≡ false → times_in p (processes_in (without os q)) ≡ times_in p (processes_in os)
other_gone [] q p ne = refl
other_gone (o ∷ os) q p ne = other_by o os q p (o.process == q) refl ne (other_gone os q p ne) (1 + place_of os q) (omega arith)

own_by : (o : Open) (os : List Open) (p : ℕ) (m : Bool) → (o.process == p) ≡ m → times_in p (processes_in (without os p)) ≡ times_in p (processes_in os) - 1
    → (n : ℕ) → n ≡ suc (place_of os p)
    → times_in p (processes_in (remove (o ∷ os) (if not m then n else 0))) ≡ (if m then 1 else 0) + times_in p (processes_in os) - 1
own_by o os p true m rest n at = omega arith
own_by o os p false m rest n at =
    subst (λ k. times_in p (processes_in (remove (o ∷ os) k)) ≡ 0 + times_in p (processes_in os) - 1) (sym at) (rw m (omega (arith, rest)))

-- its own goes
own_gone : (os : List Open) (p : ℕ) → times_in p (processes_in (without os p)) ≡ times_in p (processes_in os) - 1
own_gone [] p = refl
own_gone (o ∷ os) p = own_by o os p (o.process == p) refl (own_gone os p) (1 + place_of os p) (omega arith)

-- ---- nothing of it changes

pub record Still (p : ℕ) (s t : State) : Type 0 where
  pub attached : is_attached t.procs p ≡ is_attached s.procs p
  pub times : times_in p (processes_in t.reads) ≡ times_in p (processes_in s.reads)
  pub pending : is_pending s p ≡ true → is_pending t p ≡ true

still : (p : ℕ) (s : State) → Still p s s
still p s = record { attached = refl; times = refl; pending = λ h. h }

then_still : (p : ℕ) (s t u : State) → Still p s t → Still p t u → Still p s u
then_still p s t u k l = record { attached = l.attached ∙ k.attached; times = l.times ∙ k.times; pending = λ h. l.pending (k.pending h) }

-- what an event leaves that is no client's own
of_folk : (p : ℕ) (s t : State) → Folk s t → Still p s t
of_folk p s t k = record { attached = k.procs.attached p; times = k.times p; pending = k.procs.waits p }

finished_still : (p : ℕ) (o : Outcome) → Still p o.after (finished o).after
finished_still p o = of_folk p o.after (finished o).after (finished_walk o).folk

event_still : (p : ℕ) (s : State) (q : ℕ) (e : Event) → is_personal e ≡ false → Still p s (effect s q e).after
event_still p s q e n = of_folk p s (effect s q e).after (event_folk s q e n)

-- ---- a client's other events

procs_same : (p : ℕ) (s t : State) → t.procs ≡ s.procs → is_pending s p ≡ true → is_pending t p ≡ true
procs_same p s t e h = ap (λ ps. is_some (first_pending ps p)) e ∙ h

-- ---- another's event

same_open : (p : ℕ) (s t : State) → times_in p (processes_in t.reads) ≡ times_in p (processes_in s.reads) → is_open t.reads p ≡ is_open s.reads p
same_open p s t e = open_times t.reads p ∙ ap (λ n. nat_lt 0 n) e ∙ sym (open_times s.reads p)

begun_times : (p : ℕ) (s : State) (q : ℕ) (t : State) → IsBegun s q t → times_in p (processes_in t.reads) ≡ times_in p (processes_in s.reads) + one_if (q == p)
begun_times p s q t is = ap (λ (x : Seats). times_in p (processes_in x.2)) is.is ∙ last_times s.reads q p is.read

begun_other : (p : ℕ) (s : State) (q : ℕ) (b : Bool) (t : State) → (q == p) ≡ false → BeginsBy b s q t → Still p s t
begun_other p s q true t ne same = subst (λ (x : State). Still p s x) (sym same) (still p s)
begun_other p s q false t ne is =
    let none : one_if (q == p) ≡ 0 = ap one_if ne in
    let procs : t.procs ≡ s.procs = ap (λ (x : Seats). x.1) is.is in
    record {
      attached = ap (λ ps. is_attached ps p) procs;
      times = omega (arith, begun_times p s q t is, none);
      pending = procs_same p s t procs;
    }

gone_other : (p : ℕ) (s : State) (q : ℕ) (t : State) → t.reads ≡ without s.reads q → (q == p) ≡ false
    → times_in p (processes_in t.reads) ≡ times_in p (processes_in s.reads)
gone_other p s q t e ne = ap (λ os. times_in p (processes_in os)) e ∙ other_gone s.reads q p ne

collected_procs : (s : State) (q : ℕ) → (collected s q).after.procs ≡ s.procs
collected_procs s q = ap (λ (x : Seats). x.1) (collected_seats s q)

collected_reads : (s : State) (q : ℕ) → (collected s q).after.reads ≡ without s.reads q
collected_reads s q = ap (λ (x : Seats). x.2) (collected_seats s q)

collected_other : (p : ℕ) (s : State) (q : ℕ) → (q == p) ≡ false → Still p s (collected s q).after
collected_other p s q ne =
    let procs = collected_procs s q in
    record {
      attached = ap (λ ps. is_attached ps p) procs;
      times = gone_other p s q (collected s q).after (collected_reads s q) ne;
      pending = procs_same p s (collected s q).after procs;
    }

took_other : (p : ℕ) (s : State) (q : ℕ) → (q == p) ≡ false → Still p s (took_ctrl s q).after
unfolding took_ctrl
took_other p s q ne = record {
  attached = attached_laws.of_changed (λ x. record x { pending = drop 1 x.pending }) (λ x. refl) s.procs q p;
  times = refl;
  pending = λ h. ap (λ o. is_some (slice_get (pending_in o) 0)) (other_proc (λ x. record x { pending = drop 1 x.pending }) s.procs q p ne) ∙ h;
}

left_other : (p : ℕ) (s : State) (q status : ℕ) → (q == p) ≡ false → Still p s (left s q status)
unfolding left
left_other p s q status ne = record {
  attached = attached_laws.of_exited s.procs q status p ∙ ap (λ b. not b && is_attached s.procs p) ne;
  times = other_gone s.reads q p ne;
  pending = changed_waits (λ x. record x { ended = Some status }) (λ x h. h) s.procs q p;
}

effect_others : (p : ℕ) (s : State) (q : ℕ) (e : Event) → (is_clients e ≡ true → (q == p) ≡ false) → Still p s (effect s q e).after
unfolding effect
effect_others p s q (events.Begin w) ne = begun_other p s q (is_fail (began s q w).reply) (began s q w).after (ne refl) (begin_is s q w)
effect_others p s q events.Collect ne = collected_other p s q (ne refl)
effect_others p s q events.TakeCtrl ne = took_other p s q (ne refl)
effect_others p s q (events.Exit status) ne = left_other p s q status (ne refl)
effect_others p s q e ne = event_still p s q e refl

stays_of : (p : ℕ) (s t : State) → Still p s t → Stays p s t
stays_of p s t k = record { attached = k.attached; reading = same_open p s t k.times; pending = k.pending }

-- an event of a client's that the terminal's side or the painter would enter is refused
none_inside : (b : Bool) → (b && true) ≡ false → b ≡ true → ⊥
none_inside true e c = true≢false e
none_inside false e c = true≢false (sym c)

not_this : (s : State) (a : Actor) (e : Event) (p : ℕ) → is_client p a ≡ false → is_outside s a e ≡ false → is_clients e ≡ true → (client_of a == p) ≡ false
not_this s (actors.Client q) e p ne inside c = ne
not_this s actors.Terminal e p ne inside c = absurd (none_inside (is_clients e) inside c)
not_this s actors.Painter e p ne inside c = absurd (none_inside (is_clients e) inside c)

others_by : (s : State) (a : Actor) (e : Event) (p : ℕ) (b : Bool) → is_client p a ≡ false → is_outside s a e ≡ b
    → Stays p s (if b then refused s code.BadHandle else finished (effect s (client_of a) e)).after
others_by s a e p true ne out = stays_of p s s (still p s)
others_by s a e p false ne out =
    let o : Outcome = effect s (client_of a) e in
    stays_of p s (finished o).after
    (then_still p s o.after (finished o).after (effect_others p s (client_of a) e (not_this s a e p ne out)) (finished_still p o))

pub others_stay : OthersStay
unfolding step
others_stay s a e p ne = others_by s a e p (is_outside s a e) ne refl

-- ---- its own event

or_true : (b r : Bool) → r ≡ true → (b || r) ≡ true
or_true true r e = refl
or_true false r e = e

begun_open : (os : List Open) (p : ℕ) (read : OpenRead) → is_open (os ++ begun p read ∷ []) p ≡ true
begun_open [] p read = rw (eq-eqb p p refl) refl
begun_open (o ∷ os) p read = or_true (o.process == p) (is_open (os ++ begun p read ∷ []) p) (begun_open os p read)

does_still : (p : ℕ) (s : State) (e : Event) (o : Outcome) → attached_by e ≡ true → reads_by (is_open s.reads p) e (is_fail o.reply) ≡ is_open s.reads p
    → is_attached s.procs p ≡ true → Still p s o.after → Does p s e o
does_still p s e o stays same a k = record { attached = k.attached ∙ a ∙ sym stays; reading = same_open p s o.after k.times ∙ sym same }

begun_does : (p : ℕ) (s : State) (w : Wanted) (o : Outcome) (b : Bool) → is_attached s.procs p ≡ true → is_fail o.reply ≡ b → BeginsBy b s p o.after
    → Does p s (events.Begin w) o
begun_does p s w o true a fails same = record { attached = ap (λ x. is_attached x.procs p) same ∙ a; reading = rw fails (ap (λ x. is_open x.reads p) same) }
begun_does p s w o false a fails is =
    record {
      attached =
          ap (λ (x : Seats). is_attached x.1 p) is.is ∙ a;
      reading = rw fails (ap (λ (x : Seats). is_open x.2 p) is.is ∙ begun_open s.reads p is.read);
    }

none_left : (m n : ℕ) → m ≡ n - 1 → n ≤ 1 → nat_lt 0 m ≡ false
none_left m n e one = let none : m ≡ 0 = omega arith in rw none refl

gone_none : (p : ℕ) (s t : State) → t.reads ≡ without s.reads p → IsSingle s p → is_open t.reads p ≡ false
gone_none p s t e one = open_times t.reads p
    ∙ none_left (times_in p (processes_in t.reads)) (times_in p (processes_in s.reads)) (ap (λ os. times_in p (processes_in os)) e ∙ own_gone s.reads p) one

collected_does : (p : ℕ) (s : State) → is_attached s.procs p ≡ true → IsSingle s p → Does p s events.Collect (collected s p)
collected_does p s a one =
    record { attached = ap (λ ps. is_attached ps p) (collected_procs s p) ∙ a; reading = gone_none p s (collected s p).after (collected_reads s p) one }

took_does : (p : ℕ) (s : State) → is_attached s.procs p ≡ true → Does p s events.TakeCtrl (took_ctrl s p)
unfolding took_ctrl
took_does p s a = record { attached = attached_laws.of_changed (λ x. record x { pending = drop 1 x.pending }) (λ x. refl) s.procs p p ∙ a; reading = refl }

left_does : (p : ℕ) (s : State) (status : ℕ) → IsSingle s p → Does p s (events.Exit status) (done (left s p status))
unfolding left
left_does p s status one = record {
  attached = attached_laws.of_exited s.procs p status p ∙ ap (λ b. not b && is_attached s.procs p) (eq-eqb p p refl);
  reading = gone_none p s (left s p status) refl one;
}

effect_does : (p : ℕ) (s : State) (e : Event) → is_attached s.procs p ≡ true → IsSingle s p → Does p s e (effect s p e)
unfolding effect
effect_does p s (events.Begin w) a one = begun_does p s w (began s p w) (is_fail (began s p w).reply) a refl (begin_is s p w)
effect_does p s events.Collect a one = collected_does p s a one
effect_does p s events.TakeCtrl a one = took_does p s a
effect_does p s (events.Exit status) a one = left_does p s status one
effect_does p s e a one = does_still p s e (effect s p e) refl refl a (event_still p s p e refl)

finished_does : (p : ℕ) (s : State) (e : Event) (o : Outcome) → Does p s e o → Does p s e (finished o)
finished_does p s e o d =
    let k = finished_still p o in
    record { attached = k.attached ∙ d.attached; reading = same_open p o.after (finished o).after k.times ∙ d.reading }

inside : (c a : Bool) → a ≡ true → (c && not a) ≡ false
inside true a e = rw e refl
inside false a e = refl

pub own_does : OwnDoes
unfolding step
own_does s p e a one =
    let P : Bool → Type 0 = λ b. Does p s e (if b then refused s code.BadHandle else finished (effect s p e)) in
    subst P (sym (inside (is_clients e) (is_attached s.procs p) a)) (finished_does p s e (effect s p e) (effect_does p s e a one))

-- ---- no process has two reads

still_single : (p : ℕ) (s t : State) → Still p s t → IsSingle s p → IsSingle t p
still_single p s t k one = omega (arith, k.times, one)

single_begun : (p : ℕ) (s : State) (q : ℕ) (t : State) (m : Bool) → (q == p) ≡ m → IsBegun s q t → IsSingle s p → IsSingle t p
single_begun p s q t true m is one =
    let same : q ≡ p = grind (arith, nat_tests) in
    let free : nat_lt 0 (times_in p (processes_in s.reads)) ≡ false = sym (open_times s.reads p) ∙ ap (λ k. is_open s.reads k) (sym same) ∙ is.none in
    let none : times_in p (processes_in s.reads) ≡ 0 = grind (arith, nat_tests) in
    let last : one_if (q == p) ≡ 1 = ap one_if m in
    omega (arith, begun_times p s q t is, none, last)
single_begun p s q t false m is one =
    let last : one_if (q == p) ≡ 0 = ap one_if m in
    omega (arith, begun_times p s q t is, one, last)

begun_single : (p : ℕ) (s : State) (q : ℕ) (b : Bool) (t : State) → BeginsBy b s q t → IsSingle s p → IsSingle t p
begun_single p s q true t same one = subst (λ x. IsSingle x p) (sym same) one
begun_single p s q false t is one = single_begun p s q t (q == p) refl is one

gone_single : (p : ℕ) (s : State) (q : ℕ) (t : State) (m : Bool) → (q == p) ≡ m → t.reads ≡ without s.reads q → IsSingle s p → IsSingle t p
gone_single p s q t true m e one =
    let same : q ≡ p = grind (arith, nat_tests) in
    let less : times_in p (processes_in t.reads) ≡ times_in p (processes_in s.reads) - 1 =
    ap (λ os. times_in p (processes_in os)) (e ∙ ap (λ k. without s.reads k) same) ∙ own_gone s.reads p in
    omega (arith, less, one)
gone_single p s q t false m e one = omega (arith, gone_other p s q t e m, one)

left_reads : (s : State) (q status : ℕ) → (left s q status).reads ≡ without s.reads q
unfolding left
left_reads s q status = refl

took_single : (p : ℕ) (s : State) (q : ℕ) → IsSingle s p → IsSingle (took_ctrl s q).after p
unfolding took_ctrl
took_single p s q one = one

effect_single : (p : ℕ) (s : State) (q : ℕ) (e : Event) → IsSingle s p → IsSingle (effect s q e).after p
unfolding effect
effect_single p s q (events.Begin w) one = begun_single p s q (is_fail (began s q w).reply) (began s q w).after (begin_is s q w) one
effect_single p s q events.Collect one = gone_single p s q (collected s q).after (q == p) refl (collected_reads s q) one
effect_single p s q events.TakeCtrl one = took_single p s q one
effect_single p s q (events.Exit status) one = gone_single p s q (left s q status) (q == p) refl (left_reads s q status) one
effect_single p s q e one = still_single p s (effect s q e).after (event_still p s q e refl) one

single_by : (s : State) (a : Actor) (e : Event) (p : ℕ) (b : Bool) → IsSingle s p
    → IsSingle (if b then refused s code.BadHandle else finished (effect s (client_of a) e)).after p
single_by s a e p true one = one
single_by s a e p false one =
    let o : Outcome = effect s (client_of a) e in
    still_single p o.after (finished o).after (finished_still p o) (effect_single p s (client_of a) e one)

pub single_step : (s : State) (a : Actor) (e : Event) (p : ℕ) → IsSingle s p → IsSingle (step s a e).after p
unfolding step
single_step s a e p one = single_by s a e p (is_outside s a e) one

pub single_run : (s : State) (h : List Entry) (p : ℕ) → IsSingle s p → IsSingle (run s h) p
single_run s [] p one = one
single_run s (x ∷ xs) p one = single_run (step s x.actor x.event).after xs p (single_step s x.actor x.event p one)

pub single_none : (s : State) (p : ℕ) → s.reads ≡ [] → IsSingle s p
single_none s p e = let none : times_in p (processes_in s.reads) ≡ 0 = ap (λ os. times_in p (processes_in os)) e in omega (arith, none)

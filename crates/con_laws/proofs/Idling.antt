-- After every event nothing is left to do, so an event without an effect leaves the console as it is.
use Rattle.std.proofs.Common.{◌≡◌, ℕ, Bool, true, false, ◌&&◌, List, [], ◌∷◌, ◌++◌, Option, None, Some, Result, Ok, Err, refl, sym, ap, ◌∙◌, true≢false}
use Rattle.std.specs.Prelude.{if◌then◌else◌}
use Rattle.con_units.specs.declared.code.Code.{Code}
use Rattle.con_units.specs.declared.code.Code.TheVariants as code
use Rattle.con_alias.specs.Aliases.{AliasList, Entry as Alias, alias_at}
use Rattle.con_events.specs.Session.{Clients}
use Rattle.con_events.specs.declared.actor.Actor.{Actor}
use Rattle.con_events.specs.declared.actor.Actor.TheVariants as actors
use Rattle.con_events.specs.declared.call.Call.{Call}
use Rattle.con_events.specs.declared.call.Call.TheVariants as calls
use Rattle.con_events.specs.declared.entry.Entry.{Entry}
use Rattle.con_events.specs.declared.event.Event.{Event}
use Rattle.con_events.specs.declared.event.Event.TheVariants as events
use Rattle.con_events.specs.declared.reply.Reply.{Reply}
use Rattle.con_handles.specs.declared.handle.Kind.TheVariants as kind
use Rattle.con_handles.specs.declared.handle.Object.{Object}
use Rattle.con_history.specs.Histories.{LineHistories}
use Rattle.con_procs.specs.Procs.{ids_of, signalled}
use Rattle.con_readers.specs.Reads.{Settled, settled, all_closed, failed}
use Rattle.con_readers.specs.Words.Reads.{is_at_rest, is_none_left}
use Rattle.con_readers.specs.Serving.{is_done, served}
use Rattle.con_readers.specs.declared.open.Open.{Open}
use Rattle.con_readers.specs.declared.open.OpenRead.{OpenRead}
use Rattle.con_readers.specs.declared.open.OpenRead.TheVariants as reads
use Rattle.con_records.specs.declared.record.Record.{Record}
use Rattle.con_machine.specs.State.{State}
use Rattle.con_machine.specs.Outcome.{Outcome, refused, answered, guard}
use Rattle.con_machine.specs.Words.Outcome.{with_object}
use Rattle.con_machine.specs.Call.{called}
use Rattle.con_machine.specs.Closing.{closing, hung_up, all_wait}
use Rattle.con_machine.specs.EventLaws.{served_first, settled_shows}
use Rattle.con_machine.specs.Follows.{session_start}
use Rattle.con_machine.specs.History.{run}
use Rattle.con_machine.specs.HistoryLaws.{run-append}
use Rattle.con_machine.specs.LineCalls.{told_alias_in}
use Rattle.con_machine.specs.Serving.{settled_state}
use Rattle.con_machine.specs.Words.Serving.{settled_from}
use Rattle.con_laws.specs.Settled.{IsSettled, only_tells}
use Rattle.con_laws.specs.Once.{peek}
use Rattle.con_machine.specs.Step.{step, effect, is_outside, client_of, finished}
use Rattle.con_laws.proofs.Peeked.{none_left}

-- ---- what is at rest is served no more

none_served : (p : ℕ) (al : List AliasList) (r : OpenRead) (hs : LineHistories) → is_done r ≡ false
    → served p al r [] hs ≡ record { read = r; records = []; histories = hs; acts = [] }
unfolding served
none_served p al (reads.Line line) hs d = refl
none_served p al (reads.Units n) hs d = refl
none_served p al (reads.Records n) hs d = refl
none_served p al (reads.Done a) hs d = absurd (true≢false d)

both_true : (a b : Bool) → (a && b) ≡ true → (a ≡ true) × (b ≡ true)
both_true true b e = (refl, e)
both_true false b e = absurd (true≢false (sym e))

-- the reads, the records and the histories as they were, and nothing happened
abbrev Same : List AliasList → List Open → List Record → LineHistories → Type 0
Same al os rs hs = settled al os rs hs ≡ record { reads = os; records = rs; histories = hs; acts = [] }

started_same : (al : List AliasList) (p : ℕ) (b : Bool) (r : OpenRead) (os : List Open) (rs : List Record) (hs : LineHistories) → is_done r ≡ false → b ≡ true
    → is_none_left rs ≡ true
    → (let o : Open = record { process = p; started = b; read = r } in Same al (o ∷ os) rs hs)
unfolding settled
started_same al p b r os [] hs d e none = rw (e, d, none_served p al r hs d, d) refl
started_same al p b r os (x ∷ rs) hs d e none = absurd (true≢false (sym none))

same_by : (al : List AliasList) (o : Open) (os : List Open) (rs : List Record) (hs : LineHistories) (b : Bool) → is_done o.read ≡ b
    → (is_at_rest os rs ≡ true → Same al os rs hs)
    → (if b then is_at_rest os rs else (o.started && is_none_left rs)) ≡ true → Same al (o ∷ os) rs hs
unfolding settled
same_by al o os rs hs true d ih h = rw d (ap (λ (t : Settled). let u : Settled = record t { reads = o ∷ t.reads } in u) (ih h))
same_by al o os rs hs false d ih h = let k = both_true o.started (is_none_left rs) h in started_same al o.process o.started o.read os rs hs d k.0 k.1

rest_same : (al : List AliasList) (os : List Open) (rs : List Record) (hs : LineHistories) → is_at_rest os rs ≡ true → Same al os rs hs
unfolding settled
rest_same al [] rs hs e = refl
rest_same al (o ∷ os) rs hs e = same_by al o os rs hs (is_done o.read) refl (rest_same al os rs hs) e

abbrev AtRest : State → Type 0
AtRest s = is_at_rest s.reads s.records ≡ true

rests : (s : State) → AtRest s → settled_state s ≡ s
unfolding settled_state
rests s e = ap (settled_from s) (rest_same s.aliases s.reads s.records s.histories e)

-- ---- and what was served is at rest

abbrev Left : Settled → Type 0
Left t = is_at_rest t.reads t.records ≡ true

left_by : (al : List AliasList) (o : Open) (os : List Open) (rs : List Record) (hs : LineHistories) (a b : Bool) → is_done o.read ≡ a
    → is_done (served o.process al o.read rs hs).read ≡ b
    → Left (settled al os rs hs) → (let s = served o.process al o.read rs hs in Left (settled al os s.records s.histories)) → Left (settled al (o ∷ os) rs hs)
unfolding settled
left_by al o os rs hs true b d e now later = rw (d, d) now
left_by al o os rs hs false true d e now later = rw (d, e, e) later
left_by al o os rs hs false false d e now later = rw (d, e, e, none_left o.process al o.read rs hs d e) refl

all_left : (al : List AliasList) (os : List Open) (rs : List Record) (hs : LineHistories) → Left (settled al os rs hs)
unfolding settled
all_left al [] rs hs = refl
all_left al (o ∷ os) rs hs =
    let s = served o.process al o.read rs hs in
    left_by al o os rs hs (is_done o.read) (is_done s.read) refl refl (all_left al os rs hs) (all_left al os s.records s.histories)

abbrev Waits : State → List Open × List Record
Waits s = (s.reads, s.records)

served_rest : (s : State) → AtRest (settled_state s)
served_rest s =
    let same : Waits (settled_state s) ≡ Waits (served_first s) = ap Waits (settled_shows s).is in
    ap (λ (x : List Open × List Record). is_at_rest x.0 x.1) same ∙ all_left s.aliases s.reads s.records s.histories

pub settled_again : (s : State) → settled_state (settled_state s) ≡ settled_state s
settled_again s = rests (settled_state s) (served_rest s)

-- ---- closing

closed_one_done : (o : Open) (b : Bool) → is_done o.read ≡ b → is_done (if b then o else failed code.Closed o).read ≡ true
closed_one_done o true e = e
closed_one_done o false e = refl

closed_rest : (os : List Open) (rs : List Record) → is_at_rest (all_closed os) rs ≡ true
closed_rest [] rs = refl
closed_rest (o ∷ os) rs = rw (closed_one_done o (is_done o.read) refl) (closed_rest os rs)

or_rest : (b : Bool) (x y : State) → AtRest x → AtRest y → AtRest (if b then x else y)
or_rest true x y h k = h
or_rest false x y h k = k

hung_rest : (s : State) → AtRest s → AtRest (hung_up s)
hung_rest s h = or_rest s.closed s (record s { closed = true; procs = signalled s.procs 2 0; reads = all_closed s.reads }) h (closed_rest s.reads s.records)

closing_rest : (s : State) → AtRest s → AtRest (closing s)
unfolding closing
closing_rest s h = or_rest (s.drained && all_wait s.reads (ids_of s.procs)) (hung_up s) s (hung_rest s h) h

hung_closed : (s : State) → (hung_up s).closed ≡ true
hung_closed s = by s.closed refl
  where
    by : (b : Bool) → s.closed ≡ b → (if b then s else (record s { closed = true; procs = signalled s.procs 2 0; reads = all_closed s.reads })).closed ≡ true
    by true e = e
    by false e = refl

hung_again : (t : State) → t.closed ≡ true → hung_up t ≡ t
hung_again t e = rw e refl

or_same : (b : Bool) (t : State) → hung_up t ≡ t → (if b then hung_up t else t) ≡ t
or_same true t e = e
or_same false t e = refl

closing_again : (s : State) → closing (closing s) ≡ closing s
unfolding closing
closing_again s = by (s.drained && all_wait s.reads (ids_of s.procs)) refl
  where
    by : (b : Bool) → (s.drained && all_wait s.reads (ids_of s.procs)) ≡ b → closing (if b then hung_up s else s) ≡ (if b then hung_up s else s)
    by true e = let t : State = hung_up s in or_same (t.drained && all_wait t.reads (ids_of t.procs)) t (hung_again t (hung_closed s))
    by false e = rw e refl

-- ---- every event leaves nothing to do

after_both : (u : State) → IsSettled (closing (settled_state u))
after_both u = record { served = rests (closing (settled_state u)) (closing_rest (settled_state u) (served_rest u)); closes = closing_again (settled_state u) }

or_settled : (b : Bool) (x y : Outcome) → IsSettled x.after → IsSettled y.after → IsSettled (if b then x else y).after
or_settled true x y h k = h
or_settled false x y h k = k

pub step_settles : (s : State) (a : Actor) (e : Event) → IsSettled s → IsSettled (step s a e).after
unfolding step
step_settles s a e h = or_settled (is_outside s a e) (refused s code.BadHandle) (finished (effect s (client_of a) e)) h
    (after_both (effect s (client_of a) e).after)

pub run_settles : (s : State) (h : List Entry) → IsSettled s → IsSettled (run s h)
run_settles s [] k = k
run_settles s (x ∷ xs) k = run_settles (step s x.actor x.event).after xs (step_settles s x.actor x.event k)

pub begins_settled : (session : Clients) (racks : List (List ℕ)) → IsSettled (session_start session racks)
unfolding closing
begins_settled session racks = record { served = rests (session_start session racks) refl; closes = refl }

-- ---- an event without an effect

still_by : (b : Bool) (s : State) (o : Outcome) → IsSettled s → o.after ≡ s → (if b then refused s code.BadHandle else finished o).after ≡ s
still_by true s o k e = refl
still_by false s o k e = ap (λ (t : State). closing (settled_state t)) e ∙ ap closing k.served ∙ k.closes

pub stays_still : (s : State) (a : Actor) (e : Event) → IsSettled s → (effect s (client_of a) e).after ≡ s → (step s a e).after ≡ s
unfolding step
stays_still s a e k h = still_by (is_outside s a e) s (effect s (client_of a) e) k h

-- ---- calls that tell

tells_open : (s : State) (b : Bool) (o : Outcome) → o.after ≡ s → (if b then refused s code.Closed else o).after ≡ s
tells_open s true o e = refl
tells_open s false o e = e

tells_on : (s : State) (g : Result Object Code) (reply : Object → Reply) → (with_object s g (λ o. answered s (reply o))).after ≡ s
tells_on s (Err why) reply = refl
tells_on s (Ok o) reply = refl

alias_told : (s : State) (a : Option Alias) → (told_alias_in s a).after ≡ s
alias_told s None = refl
alias_told s (Some a) = refl

call_tells : (s : State) (p : ℕ) (c : Call) → only_tells c ≡ true → (called s p c).after ≡ s
unfolding called
call_tells s p (calls.Mode h) e = tells_on s (guard s p h kind.Any 1) _
call_tells s p (calls.Info h) e = tells_on s (guard s p h kind.Output 1) _
call_tells s p (calls.CursorInfo h) e = tells_on s (guard s p h kind.Output 1) _
call_tells s p calls.Title e = tells_open s s.closed _ refl
call_tells s p (calls.RectRead h rect) e = tells_on s (guard s p h kind.Output 1) _
call_tells s p (calls.RunReadUnits h x y n) e = tells_on s (guard s p h kind.Output 1) _
call_tells s p (calls.RunReadAttrs h x y n) e = tells_on s (guard s p h kind.Output 1) _
call_tells s p (calls.Peek h n) e = tells_on s (guard s p h kind.Input 1) _
call_tells s p (calls.Count h) e = tells_on s (guard s p h kind.Input 1) _
call_tells s p calls.HistoryInfo e = tells_open s s.closed _ refl
call_tells s p calls.HistoryList e = tells_open s s.closed _ refl
call_tells s p (calls.AliasGet program source) e = tells_open s s.closed _ (alias_told s (alias_at s.aliases program source))
call_tells s p (calls.AliasList program) e = tells_open s s.closed _ refl
call_tells s p calls.Processes e = tells_open s s.closed _ refl
call_tells s p c e = absurd (cc)

pub telling_leaves : (s : State) (p : ℕ) (c : Call) → IsSettled s → only_tells c ≡ true → (step s (actors.Client p) (events.Call c)).after ≡ s
unfolding effect
telling_leaves s p c k e = stays_still s (actors.Client p) (events.Call c) k (call_tells s p c e)

pub peek_leaves : (s : State) (h : List Entry) (p hd n : ℕ) → IsSettled s → run s (h ++ peek p hd n ∷ []) ≡ run s h
peek_leaves s h p hd n k = run-append s h (peek p hd n ∷ []) ∙ telling_leaves (run s h) p (calls.Peek hd n) (run_settles s h k) refl

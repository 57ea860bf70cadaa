-- A scribe behind a turn of its pass.
use Rattle.std.proofs.Common.{◌≡◌, ℕ, true, false, List, [], ◌∷◌, ◌++◌, Option, Some, sym, ap, ◌∙◌, subst, append-nil, append_assoc}
use Rattle.std.specs.Prelude.{Result, Ok, Err, None, IfOk, IfErr, IfSome}
use Rattle.std.specs.Option.{IfNone}
use Rattle.con_units.specs.declared.code.OutOfMemory.{OutOfMemory}
use Rattle.con_book.specs.History.{StartsWith, after, own, entry}
use Rattle.con_book.specs.Laws.{own-append}
use Rattle.con_book.specs.Passes.{view_of, actor_of, IsSamePass}
use Rattle.con_book.specs.Turn.{SeesOthers, Enters, IsBlocked, OwnIsMine}
use Rattle.con_book.specs.declared.history.Logged.{Logged}
use Rattle.con_events.specs.declared.actor.Actor.{Actor}
use Rattle.con_events.specs.declared.entry.Entry.{Entry}
use Rattle.con_events.specs.declared.event.Event.{Event}
use Rattle.con_machine.specs.History.{run}
use Rattle.con_machine.specs.Numbered as numbers
use Rattle.con_machine.specs.Numbered.{ready_of}
use Rattle.con_machine.specs.State.{State}
use Rattle.con_machine.specs.Step.{step, is_ready}
use Rattle.con_actors.specs.Words.Desk.{brief_of}
use Rattle.con_actors.specs.Words.Desk as desk
use Rattle.con_threads.specs.Ledger.{logged_entries, logged_front, next_page, page_ready, page_brief, page_tells, brief_by, brief_told, TellsPicture}
use Rattle.con_threads.specs.LedgerLaws.{logged_entries-append, after_state, history_legal, others_entered, front_whole}
use Rattle.con_threads.specs.Scribe.{opened, history, IsScribe, IsSameScribe, SeesMore, HasEntered}
use Rattle.con_threads.specs.declared.ledger.LedgerView.{LedgerView}
use Rattle.con_threads.specs.declared.ledger.Told.{Told}
use Rattle.con_threads.specs.declared.scribe.Scribe.{Scribe}

-- ---- over a log and what was put behind it

module _ (start : State) (n : ℕ) (a : Actor) (named : numbers.actor_of n ≡ Some a) (seen : List (Logged Event)) where
  -- entries of others
  pub more_seen : (xs : List (Logged Event)) → own n xs ≡ [] → SeesMore start a (logged_entries start seen) (logged_entries start (seen ++ xs))
  more_seen xs none = record {
    between = logged_entries (run start (logged_entries start seen)) xs;
    others = others_entered n a (run start (logged_entries start seen)) xs named none;
    legal = history_legal (run start (logged_entries start seen)) xs;
    entries' = logged_entries-append start seen xs;
  }

-- its own event, which was ready
one_entered : (s : State) (n : ℕ) (a : Actor) (e : Event) → numbers.actor_of n ≡ Some a → is_ready s a e ≡ true
    → logged_entries s (entry n e ∷ []) ≡ desk.entry a e ∷ []
one_entered s n a e named ready =
    append-nil (logged_front s (numbers.actor_of n) e)
    ∙ (ap (λ (o : Option Actor). logged_front s o e) named ∙ front_whole s (Some a) e ready)

-- ---- what a view tells of its state, whose history is that of its entries

module _ (p : LedgerView) (n : ℕ) (a : Actor) (named : numbers.actor_of n ≡ Some a) (log : List (Logged Event)) where
  pub ready_there : (e : Event) → page_ready (after next_page p log) n e ≡ is_ready (run p.state (logged_entries p.state log)) a e
  ready_there e = λ i. ready_of (after_state p log i) (named i) e

  brief_there : (e : Event) → page_brief (after next_page p log) n e ≡ brief_of (step (run p.state (logged_entries p.state log)) a e).reply
  brief_there e = λ i. brief_by (after_state p log i) (named i) e

  tells_there : (e : Event) (t : Told) → page_tells t (after next_page p log) n e → TellsPicture t (run p.state (logged_entries p.state log)) (Some a) e
  tells_there e t told = let P : State × Option Actor → Type 0 = λ z. TellsPicture t z.0 z.1 e in subst P (λ i. (after_state p log i, named i)) told

-- an event that is ready in every state is so for its number
pub always_ready : (old : Scribe) → IsScribe old → (e : Event) → ((s : State) → is_ready s old.actor e ≡ true) → (p : LedgerView)
    → page_ready p (actor_of old.pass) e ≡ true
always_ready old is e always p = ap (λ (o : Option Actor). ready_of p.state o e) is.named ∙ always p.state

-- ---- of a scribe before and after

module _ (old new : Scribe) (is : IsScribe old) (same : IsSamePass old.pass new.pass) where
  abbrev start : LedgerView
  start = (view_of old.pass).start

  abbrev n : ℕ
  n = actor_of old.pass

  abbrev seen : List (Logged Event)
  seen = (view_of old.pass).seen

  -- what it has seen now, from where the console began
  new_history : (log : List (Logged Event)) → (view_of new.pass).seen ≡ log → history new ≡ logged_entries start.state log
  new_history log e = λ i. logged_entries (same.1.0 i).state (e i)

  pub saw : SeesOthers (view_of old.pass) (view_of new.pass) → SeesMore (opened old) old.actor (history old) (history new)
  saw s =
      let P : List Entry → Type 0 = λ z. SeesMore (opened old) old.actor (history old) z in
      subst P (sym (new_history (seen ++ s.0) s.2)) (more_seen start.state n old.actor is.named seen s.0 s.1)

  still_named : new.actor ≡ old.actor → numbers.actor_of (actor_of new.pass) ≡ Some new.actor
  still_named e = ap numbers.actor_of same.1.1 ∙ (is.named ∙ ap (λ (b : Actor). Some b) (sym e))

  is_still : new.actor ≡ old.actor → OwnIsMine (view_of new.pass) → IsScribe new
  is_still e mine = record {
    named = still_named e;
    single = same.1.2 ∙ is.single;
    own_mine = mine;
    none_before = ap (λ (q : LedgerView). q.replies) same.1.0 ∙ is.none_before;
  }

  pub saw_is : new.actor ≡ old.actor → SeesOthers (view_of old.pass) (view_of new.pass) → IsScribe new
  saw_is e s =
      is_still e
      ((λ i. own (same.1.1 i) (s.2 i)) ∙ (own-append n seen s.0 ∙ (ap (λ (l : List Event). own n seen ++ l) s.1 ∙ (append-nil (own n seen) ∙ (is.own_mine ∙ sym s.3)))))

  pub entered_is : (event : Event) (told : Told) → new.actor ≡ old.actor
      → Enters next_page page_ready brief_told page_brief page_tells (view_of old.pass) event told (view_of new.pass) → IsScribe new
  entered_is event told e x = is_still e (ap (λ (k : ℕ). own k (view_of new.pass).seen) same.1.1 ∙ x.all_mine)

  pub entered : (event : Event) (told : Told) → Enters next_page page_ready brief_told page_brief page_tells (view_of old.pass) event told (view_of new.pass)
      → HasEntered (opened old) old.actor event told (history old) (history new)
  entered event told x =
      let all : List (Logged Event) = seen ++ x.between in
      let m : SeesMore (opened old) old.actor (history old) (logged_entries start.state all) = more_seen start.state n old.actor is.named seen x.between x.others in
      let there : logged_entries start.state all ≡ history old ++ m.between = m.entries' in
      let ready : is_ready (run start.state (logged_entries start.state all)) old.actor event ≡ true = sym (ready_there start n old.actor is.named all event)
      ∙ x.was_ready in
      let brief : brief_told told ≡ brief_of (step (run start.state (logged_entries start.state all)) old.actor event).reply = x.reply_is
      ∙ brief_there start n old.actor is.named all event in
      let R : List Entry → Type 0 = λ z. is_ready (run start.state z) old.actor event ≡ true in
      let B : List Entry → Type 0 = λ z. brief_told told ≡ brief_of (step (run start.state z) old.actor event).reply in
      let T : List Entry → Type 0 = λ z. TellsPicture told (run start.state z) (Some old.actor) event in
      record {
        between = m.between;
        others = m.others;
        legal = m.legal;
        entries' = new_history (all ++ entry n event ∷ []) x.seen
            ∙ (logged_entries-append start.state all (entry n event ∷ [])
            ∙ ((λ i. there i ++ one_entered (run start.state (logged_entries start.state all)) n old.actor event is.named ready i)));
        ready = subst R there ready;
        brief = subst B there brief;
        tells = subst T there (tells_there start n old.actor is.named all event told x.told);
      }

  pub ready_now : (event : Event) → new.actor ≡ old.actor
      → page_ready (after next_page (view_of new.pass).start (view_of new.pass).seen) (actor_of new.pass) event
      ≡ is_ready (run (opened new) (history new)) new.actor event
  ready_now event e = ready_there (view_of new.pass).start (actor_of new.pass) new.actor (still_named e) (view_of new.pass).seen event

  -- what it has seen begins with what it had seen
  pub saw_more : SeesOthers (view_of old.pass) (view_of new.pass) → StartsWith (view_of new.pass).seen (view_of old.pass).seen
  saw_more s = (s.0, s.2)

  pub entered_more : (event : Event) (told : Told)
      → Enters next_page page_ready brief_told page_brief page_tells (view_of old.pass) event told (view_of new.pass)
      → StartsWith (view_of new.pass).seen (view_of old.pass).seen
  entered_more event told x = (x.between ++ entry n event ∷ [], x.seen ∙ append_assoc seen x.between (entry n event ∷ []))

-- ---- behind a turn, whatever came of it

module _ (old new : Scribe) (is : IsScribe old) (same : IsSamePass old.pass new.pass) (actor : new.actor ≡ old.actor) (event : Event) where
  abbrev Entered : Told → Type 0
  Entered t = Enters next_page page_ready brief_told page_brief page_tells (view_of old.pass) event t (view_of new.pass)

  abbrev Saw : Type 0
  Saw = SeesOthers (view_of old.pass) (view_of new.pass)

  same_saw : Saw → IsSameScribe old new
  same_saw s = record { pass = same; actor = actor; more = saw_more old new is same s }

  same_entered : (t : Told) → Entered t → IsSameScribe old new
  same_entered t x = record { pass = same; actor = actor; more = entered_more old new is same event t x }

  pub turn_same : (r : Result Told OutOfMemory) → IfOk r (λ t. Entered t) → IfErr r (λ _. Saw) → IsSameScribe old new
  turn_same (Ok t) x s = same_entered t x
  turn_same (Err e) x s = same_saw s

  pub turn_is : (r : Result Told OutOfMemory) → IfOk r (λ t. Entered t) → IfErr r (λ _. Saw) → IsScribe new
  turn_is (Ok t) x s = entered_is old new is same event t actor x
  turn_is (Err e) x s = saw_is old new is same actor s

  pub turn_entered : (r : Result Told OutOfMemory) → IfOk r (λ t. Entered t)
      → IfOk r (λ t. HasEntered (opened old) old.actor event t (history old) (history new))
  turn_entered (Ok t) x = entered old new is same event t x
  turn_entered (Err e) x = tt

  pub turn_refused : (r : Result Told OutOfMemory) → IfErr r (λ _. Saw) → IfErr r (λ _. SeesMore (opened old) old.actor (history old) (history new))
  turn_refused (Ok t) s = tt
  turn_refused (Err e) s = saw old new is same s

  -- the same of an event that may not be ready
  abbrev Blocked : Type 0
  Blocked = Saw × IsBlocked next_page page_ready (view_of new.pass) event

  pub may_same : (r : Result (Option Told) OutOfMemory) → IfOk r (λ o. IfSome o (λ t. Entered t)) → IfOk r (λ o. IfNone o Blocked) → IfErr r (λ _. Saw)
      → IsSameScribe old new
  may_same (Ok (Some t)) x b s = same_entered t x
  may_same (Ok None) x b s = same_saw b.0
  may_same (Err e) x b s = same_saw s

  pub may_is : (r : Result (Option Told) OutOfMemory) → IfOk r (λ o. IfSome o (λ t. Entered t)) → IfOk r (λ o. IfNone o Blocked) → IfErr r (λ _. Saw)
      → IsScribe new
  may_is (Ok (Some t)) x b s = entered_is old new is same event t actor x
  may_is (Ok None) x b s = saw_is old new is same actor b.0
  may_is (Err e) x b s = saw_is old new is same actor s

  pub may_entered : (r : Result (Option Told) OutOfMemory) → IfOk r (λ o. IfSome o (λ t. Entered t))
      → IfOk r (λ o. IfSome o (λ t. HasEntered (opened old) old.actor event t (history old) (history new)))
  may_entered (Ok (Some t)) x = entered old new is same event t x
  may_entered (Ok None) x = tt
  may_entered (Err e) x = tt

  pub may_blocked : (r : Result (Option Told) OutOfMemory) → IfOk r (λ o. IfNone o Blocked)
      → IfOk r
      (λ o. IfNone o (SeesMore (opened old) old.actor (history old) (history new) × (is_ready (run (opened new) (history new)) new.actor event ≡ false)))
  may_blocked (Ok (Some t)) b = tt
  may_blocked (Ok None) b = (saw old new is same b.0, sym (ready_now old new is same event actor) ∙ b.1)
  may_blocked (Err e) b = tt

  pub may_refused : (r : Result (Option Told) OutOfMemory) → IfErr r (λ _. Saw) → IfErr r (λ _. SeesMore (opened old) old.actor (history old) (history new))
  may_refused (Ok o) s = tt
  may_refused (Err e) s = saw old new is same s

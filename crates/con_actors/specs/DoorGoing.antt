-- A client's turn at a door, by what the door told.
use Rattle.std.proofs.Common.{◌≡◌, ◌≤◌, ◌<◌, ℕ, suc, ◌+◌, Bool, true, false, List, [], ◌∷◌, ◌++◌, length, get_or, drop, Option}
use Rattle.std.proofs.Common.{Some, None, refl, sym, ap, ◌∙◌, subst, inl, inr, Result, Ok, Err, eq-eqb, append_assoc, append-nil}
use Rattle.std.specs.Prelude.{◌==◌, ◌||◌, not, if◌then◌else◌}
use Rattle.std.specs.Result.{IsErr}
use Rattle.std.proofs.Math.Seq.{drop-cons}
use Rattle.std.proofs.lemmas.List.{map-append}
use Rattle.con_units.specs.declared.code.OutOfMemory.{OutOfMemory}
use Rattle.con_events.specs.declared.actor.Actor.TheVariants as actors
use Rattle.con_events.specs.declared.call.Call.{Call}
use Rattle.con_events.specs.declared.call.Call.TheVariants as calls
use Rattle.con_events.specs.declared.entry.Entry.{Entry}
use Rattle.con_events.specs.declared.event.Event.{Event}
use Rattle.con_events.specs.declared.event.Event.TheVariants as events
use Rattle.con_events.specs.declared.event.Wanted.{Wanted}
use Rattle.con_events.specs.declared.script.Step.{Step}
use Rattle.con_handlers.specs.Memory.{Memory}
use Rattle.con_readers.specs.Reads.{is_open, has_done}
use Rattle.con_machine.specs.Added.{has_added}
use Rattle.con_machine.specs.Chain.{Handler}
use Rattle.con_machine.specs.Words.Chain.{with_handler, without_handler, delivered_to, is_handled}
use Rattle.con_machine.specs.Client.{Client, GoesOn, MayBy, due, next_event, event_of, is_fail, chained, ctrl_exit}
use Rattle.con_laws.specs.HandlerLaws.{added_first}
use Rattle.con_machine.specs.History.{run}
use Rattle.con_laws.specs.Rounds.{Begun, client_at}
use Rattle.con_laws.specs.RoundWords.{IsTurn}
use Rattle.con_machine.specs.Step.{step, is_ready}
use Rattle.con_machine.specs.Turns.{Turn, turns, turn_of, is_pending}
use Rattle.con_actors.specs.Desk.{listed}
use Rattle.con_actors.specs.Words.Desk.{entry, is_refused}
use Rattle.con_actors.specs.Door.{Saw, Entered, are_others}
use Rattle.con_actors.specs.DoorEntries.{client_by, client_is, client_saw, hands_saw, stands_saw, turns_saw}
use Rattle.con_actors.specs.DoorEntered.{client_own, turns_before, turns_behind, is_before, enters}
use Rattle.con_actors.specs.DoorEntered.{hands_before, hands_behind, stands_behind, ready_here, acted}
use Rattle.con_actors.specs.DoorTurns.{ClientAt, IsQuiet, IsNext, MayExit, HasActed, HasTurnedBy, HasTakenBy}
use Rattle.con_actors.specs.HandlerTurns.{stepped, refused_entry, granted_entry, fails_by, adds_here, places_without}
use Rattle.con_actors.specs.RackLaws.{rack_added, rack_removed, without}
use Rattle.con_actors.specs.Standing.{ClientStands}
use Rattle.con_actors.specs.StepLaws.{due_next, drop_end, drop_one, plain_by, refused_is}
use Rattle.con_actors.specs.Words.Worker.{IsStance, HandsAreBy, HandsStandBy, HandsTurnBy, IsRack, is_handlers, places_in, stand_once}
use Rattle.con_actors.specs.WorkerLaws.{IsEvent, collect_ready, collected_by, due_may, going_may, going_turn, is_there, leaving_may, leaving_turn}
use Rattle.con_actors.specs.WorkerLaws.{none_pending, open_is, step_turn, take_ready, taken_by, taking_may, took_none_turn, took_turn_is, waiting_idles}
use Rattle.con_actors.specs.declared.desk.Brief.{Brief}
use Rattle.con_actors.specs.declared.desk.Brief.TheVariants as briefs
use Rattle.con_actors.specs.declared.worker.Worker.{Worker}

-- ---- what a client may enter, and that it is its turn

-- the exit that a control event calls for
pub exits_by_ctrl : (b : Begun) (p : ℕ) (h : List Entry) (steps : List Step) (w : Worker)
    → ClientAt b p h steps w → w.gone ≡ false → w.leaving ≡ true → MayExit b p h ctrl_exit
exits_by_ctrl b p h steps w k n l = record {
  may = leaving_may (client_at b h p) steps w k.worker l n;
  turn = leaving_turn b p (run b.state h) h steps w (client_is b p h steps w k) n l;
}

-- a client that goes on with its script: none of its control events is pending, and no read of it is open
pub record GoingOn (b : Begun) (p : ℕ) (h : List Entry) (steps : List Step) (w : Worker) (places : List ℕ) (ms : List Memory) (slots : List ℕ) : Type 0 where
  pub is : ClientAt b p h steps w
  pub hands : HandsStandBy b p h places ms slots
  pub here : w.gone ≡ false
  pub stays : w.leaving ≡ false
  pub reading : w.reading ≡ false
  pub quiet : IsQuiet b p h

pub going_on : (b : Begun) (p : ℕ) (h : List Entry) (steps : List Step) (w : Worker) (places : List ℕ) (ms : List Memory) (slots : List ℕ)
    → ClientAt b p h steps w → HandsStandBy b p h places ms slots
    → w.gone ≡ false → w.leaving ≡ false → w.reading ≡ false → IsQuiet b p h → GoingOn b p h steps w places ms slots
going_on b p h steps w places ms slots k a n l r q = record { is = k; hands = a; here = n; stays = l; reading = r; quiet = q }

module _ (b : Begun) (p : ℕ) (h : List Entry) (steps : List Step) (w : Worker) (places : List ℕ) (ms : List Memory) (slots : List ℕ)
    (k : GoingOn b p h steps w places ms slots) where
  next_is : (ev : Event) → IsNext steps w ev → ev ≡ next_event (client_at b h p).left
  next_is ev d = d ∙ ap (λ (x : List Step). next_event x) (sym k.is.worker.left)

  pub script_may : (ev : Event) → IsNext steps w ev → MayBy (client_at b h p).stance (client_at b h p) ev
  script_may ev d =
      let c = client_at b h p in
      let none : c.pending ≡ false = (none_pending b p (run b.state h) h steps w (client_is b p h steps w k.is) k.here k.quiet).1 in
      going_may c steps w ev k.is.worker k.stays k.here (due_may c ev none (due_next c steps w ev k.is.worker k.reading (next_is ev d)))

  pub script_turn : (ev : Event) → IsNext steps w ev → IsTurn b h (actors.Client p) (Some ev)
  script_turn ev d = step_turn b p (run b.state h) h steps w ev (client_is b p h steps w k.is) k.here k.stays k.reading k.quiet (next_is ev d)

  -- the exit of its script
  pub exits_by_script : (status : ℕ) → IsNext steps w (events.Exit status) → MayExit b p h status
  exits_by_script status d = record { may = script_may (events.Exit status) d; turn = script_turn (events.Exit status) d }

pub next_exit : (steps : List Step) (w : Worker) → length steps ≤ w.at → IsNext steps w (events.Exit 0)
next_exit steps w m = ap (λ (x : List Step). next_event x) (sym (drop_end w.at steps m))

pub next_at : (steps : List Step) (w : Worker) (one : Step) → w.at < length steps → one ≡ get_or steps w.at one → IsNext steps w (event_of one)
next_at steps w one m e = ap (λ (x : List Step). next_event x) (sym (drop-cons steps w.at one m ∙ ap (λ (x : Step). x ∷ drop (suc w.at) steps) (sym e)))

pub saw_here : (May : List Entry → Type 0) → May [] → (h : List Entry) → Saw May h h
saw_here May m h = record { between = []; may = m; entries' = sym (append-nil h) }

module _ (May : List Entry → Type 0) (b : Begun) (p : ℕ) (others : (xs : List Entry) → May xs → are_others p xs ≡ true) (steps : List Step) where
  -- ---- nothing was entered

  -- for want of memory
  pub rested : (r : Result Bool OutOfMemory) (h g : List Entry) (w : Worker) (places : List ℕ) (ms : List Memory) (slots : List ℕ)
      → IsErr r → Saw May h g → ClientAt b p h steps w → w.gone ≡ false → HasTurnedBy May r b p steps h g w places ms slots
  rested (Ok done) h g w places ms slots i s k n = absurd (cc)
  rested (Err e) h g w places ms slots i s k n = (inl s, stands_saw May b p others h g s k.stands, n)

  -- its read is not done
  pub waited : (h g : List Entry) (w : Worker) (places : List ℕ) (ms : List Memory) (slots : List ℕ) → Saw May h g
      → is_ready (run b.state g) (actors.Client p) events.Collect ≡ false
      → ClientAt b p h steps w → w.gone ≡ false → w.leaving ≡ false → w.reading ≡ true → IsQuiet b p h → HandsStandBy b p h places ms slots
      → HasTurnedBy May (Ok false) b p steps h g w places ms slots
  waited h g w places ms slots s u k n l r q a =
      let here : s.between ≡ [] → is_ready (run b.state h) (actors.Client p) events.Collect ≡ false =
      λ e. ap (λ (z : List Entry). is_ready (run b.state z) (actors.Client p) events.Collect)
      (sym (s.entries' ∙ (ap (λ (z : List Entry). h ++ z) e ∙ append-nil h))) ∙ u in (
        record { saw = s; turn = λ e. waiting_idles b p (run b.state h) h steps w (client_is b p h steps w k) n l r q (here e) },
        client_saw May b p others h g steps w s k,
        hands_saw May b p others h g places ms slots s a,
      )

  pub untaken : (r : Result Bool OutOfMemory) (h g : List Entry) (w : Worker) (places : List ℕ) (ms : List Memory) (slots : List ℕ)
      → IsErr r → Saw May h g → ClientAt b p h steps w → w.gone ≡ false → HasTakenBy May r b p steps h g w places ms slots
  untaken (Ok done) h g w places ms slots i s k n = absurd (cc)
  untaken (Err e) h g w places ms slots i s k n = rested (Err e) h g w places ms slots i s k n

  -- no control event is pending
  pub looked : (h g : List Entry) (w : Worker) (places : List ℕ) (ms : List Memory) (slots : List ℕ)
      → Saw May h g × (is_ready (run b.state g) (actors.Client p) events.TakeCtrl ≡ false)
      → ClientAt b p h steps w → HandsStandBy b p h places ms slots → HasTakenBy May (Ok false) b p steps h g w places ms slots
  looked h g w places ms slots s k a = (s.0, s.1, client_saw May b p others h g steps w s.0 k, hands_saw May b p others h g places ms slots s.0 a)

  -- ---- the exit

  pub exited : (h g : List Entry) (status : ℕ) (brief : Brief) (w : Worker) (places : List ℕ) (ms : List Memory) (slots : List ℕ)
      → Entered May b.state (actors.Client p) (events.Exit status) brief h g
      → ClientAt b p h steps w → MayExit b p h status → HandsStandBy b p h places ms slots
      → HasTurnedBy May (Ok true) b p steps h g (record w { gone = true }) places ms slots
  exited h g status brief w places ms slots x k m a =
      let ev = events.Exit status in
      let e = client_own May b p others ev brief h g x in
      let Q : Client → Type 0 = λ c. IsStance c.stance w.leaving true in (
        acted May b p others ev brief h g x m.may (λ f. m.turn),
        record {
          stands = stands_behind May b p others ev brief h g x k.stands m.may;
          worker = record {
            left = ap (λ (c : Client). c.left) e ∙ k.worker.left;
            reading = ap (λ (c : Client). c.reading) e ∙ k.worker.reading;
            stance = subst Q (sym e) refl;
          };
        },
        hands_behind May b p others ev brief h g x places ms slots
            (record { kinds = ap (λ (c : Client). c.kinds) e; chain = ap (λ (c : Client). c.chain) e; doubtful = ap (λ (c : Client). c.doubtful) e }) a,
      )

  -- ---- the answer of a read

  pub collected : (h g : List Entry) (brief : Brief) (w : Worker) (places : List ℕ) (ms : List Memory) (slots : List ℕ)
      → Entered May b.state (actors.Client p) events.Collect brief h g
      → ClientAt b p h steps w → w.gone ≡ false → w.leaving ≡ false → w.reading ≡ true → IsQuiet b p h → HandsStandBy b p h places ms slots
      → HasTurnedBy May (Ok true) b p steps h g (record w { reading = false }) places ms slots
  collected h g brief w places ms slots x k n l r q a =
      let ev = events.Collect in
      let s = run b.state h in
      let c = client_at b h p in
      let i = client_is b p h steps w k in
      let none = none_pending b p s h steps w i n q in
      let e = client_own May b p others ev brief h g x in
      let P : Bool → Type 0 = λ z. ev ≡ (if z then ev else next_event c.left) in
      let d : ev ≡ due c = subst P (sym (k.worker.reading ∙ r)) refl in
      let may : MayBy c.stance c ev = going_may c steps w ev k.worker l n (due_may c ev none.1 d) in
      let Q : Client → Type 0 = λ z. IsStance z.stance w.leaving w.gone in (
        acted May b p others ev brief h g x may (λ f. going_turn b p s h steps w (Some ev) i n l
            (collected_by c (is_pending s p) (is_open s.reads p) (has_done s.reads p) none.0 (open_is b p s h steps w i n ∙ r)
            (sym (collect_ready s p (is_there b p s h steps w i n)) ∙ ready_here May b p others ev brief h g x f))),
        record {
          stands = stands_behind May b p others ev brief h g x k.stands may;
          worker = record { left = ap (λ (z : Client). z.left) e ∙ k.worker.left; reading = ap (λ (z : Client). z.reading) e; stance = subst Q (sym e) (l, n) };
        },
        hands_behind May b p others ev brief h g x places ms slots
            (record { kinds = ap (λ (z : Client). z.kinds) e; chain = ap (λ (z : Client). z.chain) e; doubtful = ap (λ (z : Client). z.doubtful) e }) a,
      )

  -- ---- a control event

  took_acts : (h g : List Entry) (brief : Brief) (w : Worker) → Entered May b.state (actors.Client p) events.TakeCtrl brief h g → ClientAt b p h steps w
      → w.gone ≡ false → w.leaving ≡ false
      → HasActed May b p h g × ClientStands b g p
  took_acts h g brief w x k n l =
      let ev = events.TakeCtrl in
      let s = run b.state h in
      let c = client_at b h p in
      let i = client_is b p h steps w k in
      let may : MayBy c.stance c ev = going_may c steps w ev k.worker l n (taking_may c) in (
        acted May b p others ev brief h g x may (λ f. going_turn b p s h steps w (Some ev) i n l
            (taken_by s p c (is_pending s p) (sym (take_ready s p (is_there b p s h steps w i n)) ∙ ready_here May b p others ev brief h g x f))),
        stands_behind May b p others ev brief h g x k.stands may,
      )

  pub took : (h g : List Entry) (brief : Brief) (w : Worker) (event : ℕ) (handled leaving : Bool) (places now : List ℕ)
      (ms after' : List Memory) (slots : List ℕ)
      → leaving ≡ ((event == 2) || not handled) → Entered May b.state (actors.Client p) events.TakeCtrl brief h g → brief ≡ briefs.Ctrl event
      → ClientAt b p h steps w → w.gone ≡ false → w.leaving ≡ false → HandsStandBy b p h places ms slots
      → ((hs : List Handler) (doubtful : Bool) → HandsAreBy hs doubtful places ms
      → (doubtful ≡ false → handled ≡ is_handled hs event) × HandsAreBy (delivered_to hs event) doubtful now after')
      → HasTurnedBy May (Ok true) b p steps h g (record w { leaving = leaving }) now after' slots
  took h g brief w event handled leaving places now ms after' slots t x br k n l a told =
      let ev = events.TakeCtrl in
      let m = h ++ x.between in
      let c = client_at b m p in
      let i = is_before May b p others ev brief h g x steps w k in
      let are = hands_before May b p others ev brief h g x places ms slots a in
      let d = told c.chain c.doubtful are.chain in
      let z : HandsTurnBy (Ok true) b p (run b.state m) (step (run b.state m) (actors.Client p) ev).after m g []
      (listed (step (run b.state m) (actors.Client p) ev).reply ∷ []) steps (record w { leaving = leaving }) now after' slots =
      took_turn_is b p (run b.state m) ((step (run b.state m) (actors.Client p) ev).after) m g []
      (listed (step (run b.state m) (actors.Client p) ev).reply ∷ []) steps w event handled leaving now after' slots t i n l x.ready
      (enters May b p others ev brief h g x) (sym x.brief' ∙ br) d.0 d.1 are.rack in
      let y = took_acts h g brief w x k n l in (y.0, record { stands = y.1; worker = z.1 }, z.2)

  pub took_none : (h g : List Entry) (brief : Brief) (w : Worker) (places : List ℕ) (ms : List Memory) (slots : List ℕ)
      → Entered May b.state (actors.Client p) events.TakeCtrl brief h g → IsEvent brief ≡ false → ClientAt b p h steps w → w.gone ≡ false → w.leaving ≡ false
      → HandsStandBy b p h places ms slots
      → HasTurnedBy May (Ok true) b p steps h g w places ms slots
  took_none h g brief w places ms slots x br k n l a =
      let ev = events.TakeCtrl in
      let m = h ++ x.between in
      let i = is_before May b p others ev brief h g x steps w k in
      let z : HandsTurnBy (Ok true) b p (run b.state m) (step (run b.state m) (actors.Client p) ev).after m g []
      (listed (step (run b.state m) (actors.Client p) ev).reply ∷ []) steps w places ms slots =
      took_none_turn b p (run b.state m) ((step (run b.state m) (actors.Client p) ev).after) m g []
      (listed (step (run b.state m) (actors.Client p) ev).reply ∷ []) steps w places ms slots brief i n l x.ready
      (enters May b p others ev brief h g x) x.brief' br (hands_before May b p others ev brief h g x places ms slots a) in
      let y = took_acts h g brief w x k n l in (y.0, record { stands = y.1; worker = z.1 }, z.2)

  -- ---- steps of its script

  pub began : (h g : List Entry) (wanted : Wanted) (brief : Brief) (w : Worker) (reading : Bool) (places : List ℕ) (ms : List Memory) (slots : List ℕ)
      → Entered May b.state (actors.Client p) (events.Begin wanted) brief h g → GoingOn b p h steps w places ms slots → reading ≡ not (is_refused brief)
      → IsNext steps w (events.Begin wanted)
      → HasTurnedBy May (Ok true) b p steps h g (record w { at = w.at + 1; reading = reading }) places ms slots
  began h g wanted brief w reading places ms slots x k i d =
      let ev = events.Begin wanted in
      let reply = (step (run b.state (h ++ x.between)) (actors.Client p) ev).reply in
      let v = k.is.worker in
      let e = client_own May b p others ev brief h g x in
      let may = script_may b p h steps w places ms slots k ev d in
      let Q : Client → Type 0 = λ z. IsStance z.stance w.leaving w.gone in (
        acted May b p others ev brief h g x may (λ f. script_turn b p h steps w places ms slots k ev d),
        record {
          stands = stands_behind May b p others ev brief h g x k.is.stands may;
          worker = record {
            left = ap (λ (z : Client). z.left) e ∙ (ap (λ (z : List Step). drop 1 z) v.left ∙ drop_one w.at steps);
            reading = ap (λ (z : Client). z.reading) e ∙ (ap not (sym (refused_is reply)) ∙ (ap (λ (z : Brief). not (is_refused z)) (sym x.brief') ∙ sym i));
            stance = subst Q (sym e) (k.stays, k.here);
          };
        },
        hands_behind May b p others ev brief h g x places ms slots
            (record { kinds = ap (λ (z : Client). z.kinds) e; chain = ap (λ (z : Client). z.chain) e; doubtful = ap (λ (z : Client). z.doubtful) e }) k.hands,
      )

  -- a call that leaves the handlers alone
  alone_turn : (h g : List Entry) (call : Call) (brief : Brief) (w : Worker) (pending : Bool) (places : List ℕ) (ms : List Memory) (slots : List ℕ)
      → (x : Entered May b.state (actors.Client p) (events.Call call) brief h g) → GoingOn b p h steps w places ms slots → IsNext steps w (events.Call call)
      → client_at b g p ≡ record (client_at b h p) { left = drop 1 (client_at b h p).left; stance = GoesOn; pending = pending }
      → HasTurnedBy May (Ok true) b p steps h g (record w { at = w.at + 1 }) places ms slots
  alone_turn h g call brief w pending places ms slots x k d e =
      let ev = events.Call call in
      let may = script_may b p h steps w places ms slots k ev d in (
        acted May b p others ev brief h g x may (λ f. script_turn b p h steps w places ms slots k ev d),
        record {
          stands = stands_behind May b p others ev brief h g x k.is.stands may;
          worker = stepped (client_at b h p) (client_at b g p) steps w k.is.worker k.here k.stays (ap (λ (z : Client). z.left) e)
              (ap (λ (z : Client). z.reading) e) (ap (λ (z : Client). z.stance) e);
        },
        hands_behind May b p others ev brief h g x places ms slots
            (record { kinds = ap (λ (z : Client). z.kinds) e; chain = ap (λ (z : Client). z.chain) e; doubtful = ap (λ (z : Client). z.doubtful) e }) k.hands,
      )

  pub called : (h g : List Entry) (call : Call) (brief : Brief) (w : Worker) (places : List ℕ) (ms : List Memory) (slots : List ℕ) → is_handlers call ≡ false
      → Entered May b.state (actors.Client p) (events.Call call) brief h g → GoingOn b p h steps w places ms slots → IsNext steps w (events.Call call)
      → HasTurnedBy May (Ok true) b p steps h g (record w { at = w.at + 1 }) places ms slots
  called h g call brief w places ms slots i x k d =
      let ev = events.Call call in
      let c = client_at b h p in
      let base : Client = record c { left = drop 1 c.left; stance = GoesOn } in
      let at = run b.state (h ++ x.between) in
      let pending = is_pending ((step at (actors.Client p) ev).after) p in
      alone_turn h g call brief w pending places ms slots x k d
      (client_own May b p others ev brief h g x
      ∙ ap (λ (z : Client). record z { pending = pending }) (plain_by base call (is_fail (step at (actors.Client p) ev).reply) i))

  -- one that was refused
  pub refused : (h g : List Entry) (call : Call) (brief : Brief) (w : Worker) (places : List ℕ) (ms : List Memory) (slots : List ℕ)
      → false ≡ not (is_refused brief)
      → Entered May b.state (actors.Client p) (events.Call call) brief h g → GoingOn b p h steps w places ms slots → IsNext steps w (events.Call call)
      → HasTurnedBy May (Ok true) b p steps h g (record w { at = w.at + 1 }) places ms slots
  refused h g call brief w places ms slots i x k d =
      let ev = events.Call call in
      let at = run b.state (h ++ x.between) in
      let reply = (step at (actors.Client p) ev).reply in
      let pending = is_pending ((step at (actors.Client p) ev).after) p in
      alone_turn h g call brief w pending places ms slots x k d
      (client_own May b p others ev brief h g x
      ∙ ap (λ (z : Client). record z { pending = pending }) (refused_entry (client_at b h p) call reply (fails_by false brief reply i x.brief')))

  -- one behind which there was no memory
  pub stopped : (r : Result Bool OutOfMemory) (h g : List Entry) (call : Call) (brief : Brief) (w : Worker) (places now : List ℕ)
      (ms after' : List Memory) (slots left : List ℕ) → IsErr r
      → Entered May b.state (actors.Client p) (events.Call call) brief h g → GoingOn b p h steps w places ms slots → IsNext steps w (events.Call call)
      → HasTurnedBy May r b p steps h g (record w { at = w.at + 1 }) now after' left
  stopped (Ok done) h g call brief w places now ms after' slots left i x k d = absurd (cc)
  stopped (Err e) h g call brief w places now ms after' slots left i x k d =
      let ev = events.Call call in
      let may = script_may b p h steps w places ms slots k ev d in (
        inr (acted May b p others ev brief h g x may (λ f. script_turn b p h steps w places ms slots k ev d)),
        stands_behind May b p others ev brief h g x k.is.stands may,
        k.here,
      )

  -- ---- handlers

  pub added : (h g : List Entry) (place : ℕ) (brief : Brief) (w : Worker) (places now : List ℕ) (ms after' : List Memory) (slots left : List ℕ)
      → true ≡ not (is_refused brief)
      → Entered May b.state (actors.Client p) (events.Call (calls.HandlerAdd place)) brief h g → GoingOn b p h steps w places ms slots
      → IsNext steps w (events.Call (calls.HandlerAdd place))
      → ((hs : List Handler) (doubtful : Bool) → HandsAreBy hs doubtful places ms
      → HandsAreBy (with_handler hs place (get_or slots place 0)) (if get_or slots place 0 == 0 then true else doubtful) now after')
      → ((i : ℕ) → (i == place) ≡ false → get_or left i 0 ≡ get_or slots i 0)
      → HasTurnedBy May (Ok true) b p steps h g (record w { at = w.at + 1 }) now after' left
  added h g place brief w places now ms after' slots left i s k d new same =
      let call = calls.HandlerAdd place in
      let ev = events.Call call in
      let m = h ++ s.between in
      let c = client_at b h p in
      let reply = (step (run b.state m) (actors.Client p) ev).reply in
      let pending = is_pending ((step (run b.state m) (actors.Client p) ev).after) p in
      let x = turn_of (run b.state m) p (entry (actors.Client p) ev) in
      let done : is_fail reply ≡ false = fails_by true brief reply i s.brief' in
      let first : has_added place (turns b.state p h) ≡ false =
      ap (λ (ts : List Turn). has_added place ts) (sym (turns_before May b p others ev brief h g s))
      ∙ added_first b.state m p place ev (adds_here place place reply done ∙ eq-eqb place place refl) in
      let kind : get_or slots place 0 ≡ get_or c.kinds place 0 = k.hands.rack.left place first in
      let e : client_at b g p ≡ record (chained (record c { left = drop 1 c.left; stance = GoesOn }) call) { pending = pending } =
      client_own May b p others ev brief h g s ∙ ap (λ (z : Client). record z { pending = pending }) (granted_entry c call reply done) in
      let may = script_may b p h steps w places ms slots k ev d in
      let P : ℕ → Type 0 = λ z. HandsAreBy (with_handler c.chain place z) (if z == 0 then true else c.doubtful) now after' in
      let S : Client → Type 0 = λ z. HandsAreBy z.chain z.doubtful now after' in
      let T : List Turn → Type 0 = λ ts. IsRack ts c.kinds left (places_in c.chain ++ place ∷ []) in
      let U : List ℕ → Type 0 = λ xs. IsRack (turns b.state p g) c.kinds left xs in
      let V : Client → Type 0 = λ z. IsRack (turns b.state p g) z.kinds left (places_in z.chain) in
      let rack = rack_added (turns b.state p h) x c.kinds slots left (places_in c.chain) place first (λ j. adds_here place j reply done) same k.hands.rack in (
        acted May b p others ev brief h g s may (λ f. script_turn b p h steps w places ms slots k ev d),
        record {
          stands = stands_behind May b p others ev brief h g s k.is.stands may;
          worker = stepped c (client_at b g p) steps w k.is.worker k.here k.stays (ap (λ (z : Client). z.left) e)
              (ap (λ (z : Client). z.reading) e) (ap (λ (z : Client). z.stance) e);
        },
        record {
          chain = subst S (sym e) (subst P kind (new c.chain c.doubtful k.hands.chain));
          rack = subst V (sym e) (subst U (sym (map-append (λ y. y.place) c.chain _)) (subst T (sym (turns_behind May b p others ev brief h g s)) rack));
        },
      )

  pub removed : (h g : List Entry) (place : ℕ) (brief : Brief) (w : Worker) (places now : List ℕ) (ms after' : List Memory) (slots : List ℕ)
      → true ≡ not (is_refused brief)
      → Entered May b.state (actors.Client p) (events.Call (calls.HandlerRemove place)) brief h g → GoingOn b p h steps w places ms slots
      → IsNext steps w (events.Call (calls.HandlerRemove place))
      → ((hs : List Handler) (doubtful : Bool) → stand_once (places_in hs) ≡ true → HandsAreBy hs doubtful places ms
      → HandsAreBy (without_handler hs place) doubtful now after')
      → HasTurnedBy May (Ok true) b p steps h g (record w { at = w.at + 1 }) now after' slots
  removed h g place brief w places now ms after' slots i s k d new =
      let call = calls.HandlerRemove place in
      let ev = events.Call call in
      let m = h ++ s.between in
      let c = client_at b h p in
      let reply = (step (run b.state m) (actors.Client p) ev).reply in
      let pending = is_pending ((step (run b.state m) (actors.Client p) ev).after) p in
      let x = turn_of (run b.state m) p (entry (actors.Client p) ev) in
      let e : client_at b g p ≡ record (chained (record c { left = drop 1 c.left; stance = GoesOn }) call) { pending = pending } =
      client_own May b p others ev brief h g s
      ∙ ap (λ (z : Client). record z { pending = pending }) (granted_entry c call reply (fails_by true brief reply i s.brief')) in
      let may = script_may b p h steps w places ms slots k ev d in
      let S : Client → Type 0 = λ z. HandsAreBy z.chain z.doubtful now after' in
      let T : List Turn → Type 0 = λ ts. IsRack ts c.kinds slots (without place (places_in c.chain)) in
      let U : List ℕ → Type 0 = λ xs. IsRack (turns b.state p g) c.kinds slots xs in
      let V : Client → Type 0 = λ z. IsRack (turns b.state p g) z.kinds slots (places_in z.chain) in
      let rack = rack_removed (turns b.state p h) x c.kinds slots (places_in c.chain) place k.hands.rack in (
        acted May b p others ev brief h g s may (λ f. script_turn b p h steps w places ms slots k ev d),
        record {
          stands = stands_behind May b p others ev brief h g s k.is.stands may;
          worker = stepped c (client_at b g p) steps w k.is.worker k.here k.stays (ap (λ (z : Client). z.left) e)
              (ap (λ (z : Client). z.reading) e) (ap (λ (z : Client). z.stance) e);
        },
        record {
          chain = subst S (sym e) (new c.chain c.doubtful k.hands.rack.once k.hands.chain);
          rack = subst V (sym e) (subst U (sym (places_without c.chain place)) (subst T (sym (turns_behind May b p others ev brief h g s)) rack));
        },
      )

  -- ---- behind a look

  none_first : (xs ys : List Entry) → xs ++ ys ≡ [] → (xs ≡ []) × (ys ≡ [])
  none_first [] ys e = (refl, e)
  none_first (z ∷ xs) ys e = absurd (cc)

  pub then_turned : (joins : (xs ys : List Entry) → May xs → May ys → May (xs ++ ys)) (r : Result Bool OutOfMemory) (h g l : List Entry) (w : Worker)
      (places : List ℕ) (ms : List Memory) (slots : List ℕ)
      → Saw May h g → HasTurnedBy May r b p steps g l w places ms slots → HasTurnedBy May r b p steps h l w places ms slots
  then_turned joins r h g l w places ms slots x t = by r t
    where
      here : x.between ≡ [] → g ≡ h
      here e = x.entries' ∙ (ap (λ (z : List Entry). h ++ z) e ∙ append-nil h)

      same : client_at b g p ≡ client_at b h p
      same = client_by b p h g (turns_saw May b p others h g x)

      behind : (ys : List Entry) → g ++ ys ≡ h ++ (x.between ++ ys)
      behind ys = ap (λ (z : List Entry). z ++ ys) x.entries' ∙ append_assoc h x.between ys

      saw_both : Saw May g l → Saw May h l
      saw_both y = record { between = x.between ++ y.between; may = joins x.between y.between x.may y.may; entries' = y.entries' ∙ behind y.between }

      turn_here : (o : Option Event) (ys : List Entry) → (ys ≡ [] → IsTurn b g (actors.Client p) o) → x.between ++ ys ≡ [] → IsTurn b h (actors.Client p) o
      turn_here o ys f e = let n = none_first x.between ys e in let P : List Entry → Type 0 = λ z. IsTurn b z (actors.Client p) o in subst P (here n.0) (f n.1)

      acted_both : HasActed May b p g l → HasActed May b p h l
      acted_both y = record {
        between = x.between ++ y.between;
        fits = joins x.between y.between x.may y.fits;
        event = y.event;
        entries' = y.entries' ∙ ap (λ (z : List Entry). z ++ entry (actors.Client p) y.event ∷ []) (behind y.between);
        ready = ap (λ (z : List Entry). is_ready (run b.state z) (actors.Client p) y.event) (sym (behind y.between)) ∙ y.ready;
        may = let Q : Client → Type 0 = λ c. MayBy c.stance c y.event in subst Q same y.may;
        turn = turn_here (Some y.event) y.between y.turn;
      }

      by : (r : Result Bool OutOfMemory) → HasTurnedBy May r b p steps g l w places ms slots → HasTurnedBy May r b p steps h l w places ms slots
      by (Ok true) t = (acted_both t.0, t.1, t.2)
      by (Ok false) t = (record { saw = saw_both t.0.saw; turn = turn_here None t.0.saw.between t.0.turn }, t.1, t.2)
      by (Err e) t = (elim t.0 [ inl y ↦ inl (saw_both y) | inr y ↦ inr (acted_both y) ], t.1, t.2)

-- What a worker may enter, and what that makes of it.
use Rattle.std.proofs.Common.{◌≡◌, ℕ, Bool, true, false, List, [], Option, Some, None, refl, sym, ap, ◌∙◌, subst, inl, inr, Ok}
use Rattle.std.specs.Prelude.{◌==◌, if◌then◌else◌, not, ◌||◌}
use Rattle.con_events.specs.declared.actor.Actor.TheVariants as actors
use Rattle.con_events.specs.declared.entry.Entry.{Entry}
use Rattle.con_events.specs.declared.event.Event.{Event}
use Rattle.con_events.specs.declared.event.Event.TheVariants as events
use Rattle.con_events.specs.declared.reply.Reply.{Reply}
use Rattle.con_events.specs.declared.reply.Reply.TheVariants as replies
use Rattle.con_events.specs.declared.script.Step.{Step}
use Rattle.con_handlers.specs.Memory.{Memory}
use Rattle.con_procs.specs.Procs.{is_attached}
use Rattle.con_readers.specs.Reads.{is_open, has_done}
use Rattle.con_machine.specs.Words.Chain.{delivered_to, is_handled}
use Rattle.con_machine.specs.Client.{Client, Stance, GoesOn, MayLeave, MustLeave, Gone, MayBy, MayGoOn, took, verdict, due, next_event, ctrl_exit}
use Rattle.con_machine.specs.History.{run}
use Rattle.con_laws.specs.Rounds.{Begun, client_turn, client_at}
use Rattle.con_laws.specs.RoundWords.{IsTurn, ClientTurnBy}
use Rattle.con_machine.specs.State.{State}
use Rattle.con_machine.specs.Step.{step, is_ready, is_due}
use Rattle.con_machine.specs.Turns.{turns, is_pending}
use Rattle.con_actors.specs.Words.Desk.{Enters, brief_of, entry}
use Rattle.con_actors.specs.Standing.{is_here}
use Rattle.con_actors.specs.StandingLaws.{own_is}
use Rattle.con_actors.specs.Words.Worker.{IsStance, HandsAreBy, IsRack, HandsStandBy, places_in, IsWorker, ClientIs, Acts, HandsTurnBy}
use Rattle.con_actors.specs.RackLaws.{hands_keep, rack_delivered}
use Rattle.con_actors.specs.declared.desk.Brief.{Brief}
use Rattle.con_actors.specs.declared.desk.Brief.TheVariants as briefs
use Rattle.con_actors.specs.declared.worker.Worker.{Worker}

-- ---- when a client's events are ready

pub or_true : (b : Bool) → (b || true) ≡ true
or_true true = refl
or_true false = refl

pub exit_ready : (s : State) (p status : ℕ) → is_ready s (actors.Client p) (events.Exit status) ≡ true
unfolding is_ready is_due
exit_ready s p status = or_true (not (is_attached s.procs p))

pub begin_ready : (s : State) (p : ℕ) (w : Rattle.con_events.specs.declared.event.Wanted.Wanted) → is_ready s (actors.Client p) (events.Begin w) ≡ true
unfolding is_ready is_due
begin_ready s p w = or_true (not (is_attached s.procs p))

pub call_ready : (s : State) (p : ℕ) (c : Rattle.con_events.specs.declared.call.Call.Call) → is_ready s (actors.Client p) (events.Call c) ≡ true
unfolding is_ready is_due
call_ready s p c = or_true (not (is_attached s.procs p))

pub outside_none : (a x : Bool) → a ≡ true → (not a || x) ≡ x
outside_none true x e = refl
outside_none false x e = absurd (cc)

pub take_ready : (s : State) (p : ℕ) → is_attached s.procs p ≡ true → is_ready s (actors.Client p) events.TakeCtrl ≡ is_pending s p
unfolding is_ready is_due
take_ready s p a = outside_none (is_attached s.procs p) (is_pending s p) a

pub collect_ready : (s : State) (p : ℕ) → is_attached s.procs p ≡ true → is_ready s (actors.Client p) events.Collect ≡ has_done s.reads p
unfolding is_ready is_due
collect_ready s p a = outside_none (is_attached s.procs p) (has_done s.reads p) a

-- ---- the turn of a client that is there

pub turn_there : (c : Client) (s : State) (p : ℕ) (a : Bool) (t : Option Event) → a ≡ true → ClientTurnBy c.stance s p c t
    → Rattle.con_laws.specs.RoundWords.ClientTurn a s p c t
turn_there c s p true t e k = k
turn_there c s p false t e k = absurd (cc)

pub goes_turn : (s : State) (p : ℕ) (c : Client) (t : Option Event) (st : Stance) (gone : Bool)
    → IsStance st false gone → gone ≡ false → t ≡ client_turn s p c → ClientTurnBy st s p c t
goes_turn s p c t GoesOn gone i n e = e
goes_turn s p c t MayLeave gone i n e = inr e
goes_turn s p c t MustLeave gone i n e = absurd (cc)
goes_turn s p c t Gone gone i n e = absurd (cc)

pub leaves_turn : (s : State) (p : ℕ) (c : Client) (st : Stance) (gone : Bool) → IsStance st true gone → gone ≡ false
    → ClientTurnBy st s p c (Some (events.Exit ctrl_exit))
leaves_turn s p c GoesOn gone i n = absurd (cc)
leaves_turn s p c MayLeave gone i n = inl refl
leaves_turn s p c MustLeave gone i n = refl
leaves_turn s p c Gone gone i n = absurd (cc)

pub taken_by : (s : State) (p : ℕ) (c : Client) (b : Bool) → b ≡ true → Some events.TakeCtrl
    ≡ (if b then Some events.TakeCtrl else if is_open s.reads p then (if has_done s.reads p then Some events.Collect else None) else Some (next_event c.left))
taken_by s p c true e = refl
taken_by s p c false e = absurd (cc)

pub collected_by : (c : Client) (b o d : Bool) → b ≡ false → o ≡ true → d ≡ true
    → Some events.Collect ≡ (if b then Some events.TakeCtrl else if o then (if d then Some events.Collect else None) else Some (next_event c.left))
collected_by c b o d e f g = rw (e, f, g) refl

pub waited_by : (c : Client) (b o d : Bool) → b ≡ false → o ≡ true → d ≡ false
    → None ≡ (if b then Some events.TakeCtrl else if o then (if d then Some events.Collect else None) else Some (next_event c.left))
waited_by c b o d e f g = rw (e, f, g) refl

pub stepped_by : (c : Client) (b o d : Bool) (ev : Event) → b ≡ false → o ≡ false → ev ≡ next_event c.left
    → Some ev ≡ (if b then Some events.TakeCtrl else if o then (if d then Some events.Collect else None) else Some (next_event c.left))
stepped_by c b o d ev e f g = rw (e, f, g) refl

-- a client that must leave, or may
pub may_leave : (c : Client) (s : Stance) (gone : Bool) → IsStance s true gone → gone ≡ false → MayBy s c (events.Exit ctrl_exit)
may_leave c GoesOn gone i n = absurd (cc)
may_leave c MayLeave gone i n = inl refl
may_leave c MustLeave gone i n = refl
may_leave c Gone gone i n = absurd (cc)

pub leaving_may : (c : Client) (steps : List Step) (w : Worker) → IsWorker c steps w → w.leaving ≡ true → w.gone ≡ false
    → MayBy c.stance c (events.Exit ctrl_exit)
leaving_may c steps w k l n = let P : Bool → Type 0 = λ x. IsStance c.stance x w.gone in may_leave c c.stance w.gone (subst P l k.stance) n

-- a client that need not leave goes on
pub goes_by : (c : Client) (e : Event) (s : Stance) (gone : Bool) → IsStance s false gone → gone ≡ false → MayGoOn c.pending c e → MayBy s c e
goes_by c e GoesOn gone i n m = m
goes_by c e MayLeave gone i n m = inr m
goes_by c e MustLeave gone i n m = absurd (cc)
goes_by c e Gone gone i n m = absurd (cc)

pub going_may : (c : Client) (steps : List Step) (w : Worker) (e : Event)
    → IsWorker c steps w → w.leaving ≡ false → w.gone ≡ false → MayGoOn c.pending c e → MayBy c.stance c e
going_may c steps w e k l n m = let P : Bool → Type 0 = λ x. IsStance c.stance x w.gone in goes_by c e c.stance w.gone (subst P l k.stance) n m

pub take_by : (c : Client) (b : Bool) → MayGoOn b c events.TakeCtrl
take_by c true = refl
take_by c false = inl refl

pub taking_may : (c : Client) → MayGoOn c.pending c events.TakeCtrl
taking_may c = take_by c c.pending

pub due_by : (c : Client) (b : Bool) (e : Event) → b ≡ false → e ≡ due c → MayGoOn b c e
due_by c true e n d = absurd (cc)
due_by c false e n d = inr d

pub due_may : (c : Client) (e : Event) → c.pending ≡ false → e ≡ due c → MayGoOn c.pending c e
due_may c e n d = due_by c c.pending e n d

-- a client that is not gone is there
pub here_by : (s : Stance) (leaving gone : Bool) → IsStance s leaving gone → gone ≡ false → is_here s ≡ true
here_by GoesOn leaving gone i n = refl
here_by MayLeave leaving gone i n = refl
here_by MustLeave leaving gone i n = refl
here_by Gone leaving gone i n = absurd (cc)

pub is_there : (b : Begun) (p : ℕ) (s : State) (h : List Entry) (steps : List Step) (w : Worker)
    → ClientIs b p s h steps w → w.gone ≡ false → is_attached s.procs p ≡ true
is_there b p s h steps w k n = ap (λ z. is_attached z.procs p) k.state ∙ (k.stands.here ∙ here_by (client_at b h p).stance w.leaving w.gone k.worker.stance n)

-- the turn of a client that goes on is the first thing that there is to do
pub going_turn : (b : Begun) (p : ℕ) (s : State) (h : List Entry) (steps : List Step) (w : Worker) (t : Option Event)
    → ClientIs b p s h steps w → w.gone ≡ false → w.leaving ≡ false → t ≡ client_turn s p (client_at b h p) → IsTurn b h (actors.Client p) t
going_turn b p s h steps w t k n l e =
    let c = client_at b h p in
    let P : State → Type 0 = λ z. is_attached z.procs p ≡ true in
    let Q : State → Type 0 = λ z. t ≡ client_turn z p c in
    let R : Bool → Type 0 = λ x. IsStance c.stance x w.gone in
    turn_there c (run b.state h) p (is_attached (run b.state h).procs p) t (subst P k.state (is_there b p s h steps w k n))
    (goes_turn (run b.state h) p c t c.stance w.gone (subst R l k.worker.stance) n (subst Q k.state e))

-- and that of one that leaves is the exit
pub leaving_turn : (b : Begun) (p : ℕ) (s : State) (h : List Entry) (steps : List Step) (w : Worker)
    → ClientIs b p s h steps w → w.gone ≡ false → w.leaving ≡ true → IsTurn b h (actors.Client p) (Some (events.Exit ctrl_exit))
leaving_turn b p s h steps w k n l =
    let c = client_at b h p in
    let P : State → Type 0 = λ z. is_attached z.procs p ≡ true in
    let R : Bool → Type 0 = λ x. IsStance c.stance x w.gone in
    turn_there c (run b.state h) p (is_attached (run b.state h).procs p) (Some (events.Exit ctrl_exit)) (subst P k.state (is_there b p s h steps w k n))
    (leaves_turn (run b.state h) p c c.stance w.gone (subst R l k.worker.stance) n)

-- no TakeCtrl is ready for a client that is there, so nothing was pending at its last entry
pub contra : (x y : Bool) → (x ≡ true → y ≡ true) → y ≡ false → x ≡ false
contra true y f n = absurd (let e = f refl in cc)
contra false y f n = refl

pub none_pending : (b : Begun) (p : ℕ) (s : State) (h : List Entry) (steps : List Step) (w : Worker) → ClientIs b p s h steps w → w.gone ≡ false
    → is_ready s (actors.Client p) events.TakeCtrl ≡ false
    → (is_pending s p ≡ false) × ((client_at b h p).pending ≡ false)
none_pending b p s h steps w k n r =
    let a = is_there b p s h steps w k n in
    let q = sym (take_ready s p a) ∙ r in
    (q, contra (client_at b h p).pending (is_pending s p) (λ x. ap (λ z. is_pending z p) k.state ∙ k.stands.pending x) q)

-- the console has an open read of a client that is there where its worker has
pub open_is : (b : Begun) (p : ℕ) (s : State) (h : List Entry) (steps : List Step) (w : Worker)
    → ClientIs b p s h steps w → w.gone ≡ false → is_open s.reads p ≡ w.reading
open_is b p s h steps w k n =
    let P : State → Type 0 = λ z. is_attached z.procs p ≡ true in
    ap (λ (z : State). is_open z.reads p) k.state ∙ (k.stands.reading (subst P k.state (is_there b p s h steps w k n)) ∙ k.worker.reading)

pub waiting_idles : (b : Begun) (p : ℕ) (s : State) (h : List Entry) (steps : List Step) (w : Worker)
    → ClientIs b p s h steps w → w.gone ≡ false → w.leaving ≡ false → w.reading ≡ true
    → is_ready s (actors.Client p) events.TakeCtrl ≡ false → is_ready s (actors.Client p) events.Collect ≡ false → IsTurn b h (actors.Client p) None
waiting_idles b p s h steps w k n l r t u =
    going_turn b p s h steps w None k n l (waited_by (client_at b h p) (is_pending s p) (is_open s.reads p) (has_done s.reads p)
    (none_pending b p s h steps w k n t).0 (open_is b p s h steps w k n ∙ r) (sym (collect_ready s p (is_there b p s h steps w k n)) ∙ u))

pub step_turn : (b : Begun) (p : ℕ) (s : State) (h : List Entry) (steps : List Step) (w : Worker) (ev : Event)
    → ClientIs b p s h steps w → w.gone ≡ false → w.leaving ≡ false → w.reading ≡ false
    → is_ready s (actors.Client p) events.TakeCtrl ≡ false → ev ≡ next_event (client_at b h p).left → IsTurn b h (actors.Client p) (Some ev)
step_turn b p s h steps w ev k n l r t e =
    going_turn b p s h steps w (Some ev) k n l (stepped_by (client_at b h p) (is_pending s p) (is_open s.reads p) (has_done s.reads p) ev
    (none_pending b p s h steps w k n t).0 (open_is b p s h steps w k n ∙ r) e)

-- how a worker stands after its entries

pub acts : (b : Begun) (p : ℕ) (s t : State) (h g : List Entry) (rs qs : List Reply) (e : Event)
    → s ≡ run b.state h → Enters s t h g rs qs (actors.Client p) e → is_ready s (actors.Client p) e ≡ true
    → MayBy (client_at b h p).stance (client_at b h p) e → IsTurn b h (actors.Client p) (Some e) → Acts b p s t h g rs qs
acts b p s t h g rs qs e i n r m u = record { event = e; enters = n; ready = r; may = m; turn = u }

-- an event was taken
pub verdict_by : (two d f handled : Bool) → (d ≡ false → handled ≡ f)
    → IsStance (if two then MustLeave else if d then MayLeave else if f then GoesOn else MustLeave) (two || not handled) false
verdict_by true d f handled i = (refl, refl)
verdict_by false true f handled i = refl
verdict_by false false true handled i = let e = i refl in (rw e refl, refl)
verdict_by false false false handled i = let e = i refl in (rw e refl, refl)

pub ctrl_is : (r : Reply) (event : ℕ) → brief_of r ≡ briefs.Ctrl event → r ≡ replies.Ctrl event
ctrl_is (replies.Ctrl n) event e = cc
ctrl_is replies.Done event e = absurd (cc)
ctrl_is (replies.Fail code) event e = absurd (cc)
ctrl_is (replies.Number n) event e = absurd (cc)
ctrl_is (replies.Units us) event e = absurd (cc)
ctrl_is (replies.View v marks fresh) event e = absurd (cc)
ctrl_is (replies.Numbers ns) event e = absurd (cc)
ctrl_is (replies.Records rs) event e = absurd (cc)
ctrl_is (replies.Cells rect cells) event e = absurd (cc)
ctrl_is (replies.Lines ls) event e = absurd (cc)

pub took_turn : (b : Begun) (p : ℕ) (s t : State) (h g : List Entry) (rs qs : List Reply) (steps : List Step) (w : Worker) (event : ℕ) (handled : Bool)
    (places : List ℕ) (ms : List Memory) (slots : List ℕ) → ClientIs b p s h steps w → w.gone ≡ false → w.leaving ≡ false
    → is_ready s (actors.Client p) events.TakeCtrl ≡ true → Enters s t h g rs qs (actors.Client p) events.TakeCtrl
    → brief_of (step s (actors.Client p) events.TakeCtrl).reply ≡ briefs.Ctrl event
    → ((client_at b h p).doubtful ≡ false → handled ≡ is_handled (client_at b h p).chain event)
    → HandsAreBy (delivered_to (client_at b h p).chain event) (client_at b h p).doubtful places ms
    → IsRack (turns b.state p h) (client_at b h p).kinds slots (places_in (client_at b h p).chain)
    → HandsTurnBy (Ok true) b p s t h g rs qs steps (record w { leaving = (event == 2) || not handled }) places ms slots
took_turn b p s t h g rs qs steps w event handled places ms slots k n l u en br ha are rack =
    let c = client_at b h p in
    let r = (step s (actors.Client p) events.TakeCtrl).reply in
    let e = own_is b p s t h g rs qs events.TakeCtrl k.state en in
    let P : Reply → Type 0 = λ z. client_at b g p ≡ record (took c z) { pending = is_pending ((step s (actors.Client p) events.TakeCtrl).after) p } in
    let f = subst P (ctrl_is r event br) e in (
      acts b p s t h g rs qs events.TakeCtrl k.state en u (going_may c steps w events.TakeCtrl k.worker l n (taking_may c))
          (going_turn b p s h steps w (Some events.TakeCtrl) k n l (taken_by s p c (is_pending s p) (sym (take_ready s p (is_there b p s h steps w k n)) ∙ u))),
      record {
        left = ap (λ x. x.left) f ∙ k.worker.left;
        reading = ap (λ x. x.reading) f ∙ k.worker.reading;
        stance = let Q : Client → Type 0 = λ x. IsStance x.stance ((event == 2) || not handled) w.gone in
            subst Q (sym f) (let R : Bool → Type 0 = λ x. IsStance (verdict c event) ((event == 2) || not handled) x in
            subst R (sym n) (verdict_by (event == 2) c.doubtful (is_handled c.chain event) handled ha));
      },
      record {
        chain = let S : Client → Type 0 = λ x. HandsAreBy x.chain x.doubtful places ms in subst S (sym f) are;
        rack = let S : Client → Type 0 = λ x. IsRack (turns b.state p g) x.kinds slots (places_in x.chain) in
            subst S (sym f) (rack_delivered b p s t h g rs qs events.TakeCtrl event slots en rack);
      },
    )

-- a reply to a TakeCtrl that gives no event
abbrev pub IsEvent : Brief → Bool
IsEvent (briefs.Ctrl event) = true
IsEvent briefs.Fine = false
IsEvent briefs.Refused = false

pub took_none : (c : Client) (r : Reply) → IsEvent (brief_of r) ≡ false → took c r ≡ c
took_none c (replies.Ctrl n) e = absurd (cc)
took_none c replies.Done e = refl
took_none c (replies.Fail code) e = refl
took_none c (replies.Number n) e = refl
took_none c (replies.Units us) e = refl
took_none c (replies.View v marks fresh) e = refl
took_none c (replies.Numbers ns) e = refl
took_none c (replies.Records rs) e = refl
took_none c (replies.Cells rect cells) e = refl
took_none c (replies.Lines ls) e = refl

pub took_none_turn : (b : Begun) (p : ℕ) (s t : State) (h g : List Entry) (rs qs : List Reply) (steps : List Step) (w : Worker) (places : List ℕ)
    (ms : List Memory) (slots : List ℕ) (brief : Brief) → ClientIs b p s h steps w → w.gone ≡ false → w.leaving ≡ false
    → is_ready s (actors.Client p) events.TakeCtrl ≡ true → Enters s t h g rs qs (actors.Client p) events.TakeCtrl
    → brief ≡ brief_of (step s (actors.Client p) events.TakeCtrl).reply → IsEvent brief ≡ false
    → HandsStandBy b p h places ms slots
    → HandsTurnBy (Ok true) b p s t h g rs qs steps w places ms slots
took_none_turn b p s t h g rs qs steps w places ms slots brief k n l u en br ev are =
    let c = client_at b h p in
    let r = (step s (actors.Client p) events.TakeCtrl).reply in
    let e : client_at b g p ≡ record c { pending = is_pending ((step s (actors.Client p) events.TakeCtrl).after) p } = own_is b p s t h g rs qs
    events.TakeCtrl k.state en ∙ ap (λ (x : Client). record x { pending = is_pending ((step s (actors.Client p) events.TakeCtrl).after) p })
    (took_none c r (ap IsEvent (sym br) ∙ ev)) in (
      acts b p s t h g rs qs events.TakeCtrl k.state en u (going_may c steps w events.TakeCtrl k.worker l n (taking_may c))
          (going_turn b p s h steps w (Some events.TakeCtrl) k n l (taken_by s p c (is_pending s p) (sym (take_ready s p (is_there b p s h steps w k n)) ∙ u))),
      record {
        left = ap (λ x. x.left) e ∙ k.worker.left;
        reading = ap (λ x. x.reading) e ∙ k.worker.reading;
        stance = let Q : Client → Type 0 = λ x. IsStance x.stance w.leaving w.gone in subst Q (sym e) k.worker.stance;
      },
      hands_keep b p s t h g rs qs events.TakeCtrl places ms slots en
          (record { kinds = ap (λ x. x.kinds) e; chain = ap (λ x. x.chain) e; doubtful = ap (λ x. x.doubtful) e }) are,
    )

pub took_turn_is : (b : Begun) (p : ℕ) (s t : State) (h g : List Entry) (rs qs : List Reply) (steps : List Step)
    (w : Worker) (event : ℕ) (handled leaving : Bool) (places : List ℕ) (ms : List Memory) (slots : List ℕ)
    → leaving ≡ ((event == 2) || not handled) → ClientIs b p s h steps w → w.gone ≡ false → w.leaving ≡ false
    → is_ready s (actors.Client p) events.TakeCtrl ≡ true → Enters s t h g rs qs (actors.Client p) events.TakeCtrl
    → brief_of (step s (actors.Client p) events.TakeCtrl).reply ≡ briefs.Ctrl event
    → ((client_at b h p).doubtful ≡ false → handled ≡ is_handled (client_at b h p).chain event)
    → HandsAreBy (delivered_to (client_at b h p).chain event) (client_at b h p).doubtful places ms
    → IsRack (turns b.state p h) (client_at b h p).kinds slots (places_in (client_at b h p).chain)
    → HandsTurnBy (Ok true) b p s t h g rs qs steps (record w { leaving = leaving }) places ms slots
took_turn_is b p s t h g rs qs steps w event handled leaving places ms slots i k n l u en br ha are rack =
    let P : Bool → Type 0 = λ x. HandsTurnBy (Ok true) b p s t h g rs qs steps (record w { leaving = x }) places ms slots in
    subst P (sym i) (took_turn b p s t h g rs qs steps w event handled places ms slots k n l u en br ha are rack)

-- A client behind an entry of its own, as a door tells it.
use Rattle.std.proofs.Common.{◌≡◌, ℕ, true, List, [], ◌∷◌, ◌++◌, Some, refl, sym, ap, ◌∙◌, subst, append-nil}
use Rattle.con_events.specs.declared.actor.Actor.TheVariants as actors
use Rattle.con_events.specs.declared.entry.Entry.{Entry}
use Rattle.con_events.specs.declared.event.Event.{Event}
use Rattle.con_events.specs.declared.script.Step.{Step}
use Rattle.con_handlers.specs.Memory.{Memory}
use Rattle.con_machine.specs.Client.{Client, Stance, GoesOn, MayLeave, MustLeave, Gone, MayBy, entered}
use Rattle.con_machine.specs.History.{run}
use Rattle.con_laws.specs.Rounds.{Begun, client_at}
use Rattle.con_laws.specs.RoundWords.{IsTurn}
use Rattle.con_machine.specs.Step.{step, is_ready}
use Rattle.con_machine.specs.Turns.{Turn, turns, turn_of, is_pending}
use Rattle.con_actors.specs.Desk.{listed}
use Rattle.con_actors.specs.Words.Desk.{Enters, entry}
use Rattle.con_actors.specs.Door.{Entered, are_others}
use Rattle.con_actors.specs.DoorTurns.{ClientAt, HasActed}
use Rattle.con_actors.specs.RackLaws.{hands_keep, own_turns}
use Rattle.con_actors.specs.Standing.{ClientStands, is_here}
use Rattle.con_actors.specs.StandingLaws.{own_is, stands_own}
use Rattle.con_actors.specs.Words.Worker.{HandsStandBy, ClientIs, Keeps}
use Rattle.con_actors.specs.declared.desk.Brief.{Brief}
use Rattle.con_actors.specs.declared.worker.Worker.{Worker}
use Rattle.con_actors.specs.DoorEntries.{turns_others, stands_others, client_by, worker_by, hands_by}

-- ---- an entry of its own

may_here : (c : Client) (e : Event) (s : Stance) → MayBy s c e → is_here s ≡ true
may_here c e GoesOn m = refl
may_here c e MayLeave m = refl
may_here c e MustLeave m = refl
may_here c e Gone m = absurd m

module _ (May : List Entry → Type 0) (b : Begun) (p : ℕ) (others : (xs : List Entry) → May xs → are_others p xs ≡ true) (e : Event) (brief : Brief)
    (h g : List Entry) (x : Entered May b.state (actors.Client p) e brief h g) where
  pub turns_before : turns b.state p (h ++ x.between) ≡ turns b.state p h
  turns_before = turns_others b.state p h x.between (others x.between x.may)

  pub client_before : client_at b (h ++ x.between) p ≡ client_at b h p
  client_before = client_by b p h (h ++ x.between) turns_before

  pub is_before : (steps : List Step) (w : Worker) → ClientAt b p h steps w → ClientIs b p (run b.state (h ++ x.between)) (h ++ x.between) steps w
  is_before steps w k = record {
    state = refl;
    stands = stands_others b p h x.between (others x.between x.may) k.stands;
    worker = worker_by b p h (h ++ x.between) steps w turns_before k.worker;
  }

  pub enters : Enters (run b.state (h ++ x.between)) (step (run b.state (h ++ x.between)) (actors.Client p) e).after (h ++ x.between) g []
      (listed (step (run b.state (h ++ x.between)) (actors.Client p) e).reply ∷ []) (actors.Client p) e
  enters = record { state = refl; entries = x.entries'; replies = refl }

  pub hands_before : (places : List ℕ) (ms : List Memory) (slots : List ℕ) → HandsStandBy b p h places ms slots
      → HandsStandBy b p (h ++ x.between) places ms slots
  hands_before places ms slots a = hands_by b p h (h ++ x.between) places ms slots turns_before a

  -- the client behind it
  pub client_own : client_at b g p ≡ record (entered (client_at b h p) e (step (run b.state (h ++ x.between))
      (actors.Client p) e).reply) { pending = is_pending ((step (run b.state (h ++ x.between)) (actors.Client p) e).after) p }
  client_own =
      let reply = (step (run b.state (h ++ x.between)) (actors.Client p) e).reply in
      let pending = is_pending ((step (run b.state (h ++ x.between)) (actors.Client p) e).after) p in
      own_is b p (run b.state (h ++ x.between)) ((step (run b.state (h ++ x.between)) (actors.Client p) e).after)
      (h ++ x.between) g [] (listed reply ∷ []) e refl enters
      ∙ ap (λ (c : Client). record (entered c e reply) { pending = pending }) client_before

  pub stands_behind : ClientStands b h p → MayBy (client_at b h p).stance (client_at b h p) e → ClientStands b g p
  stands_behind c m =
      let P : List Entry → Type 0 = λ z. ClientStands b z p in
      let Q : Client → Type 0 = λ d. MayBy d.stance d e in
      let k = stands_others b p h x.between (others x.between x.may) c in
      let n : MayBy (client_at b (h ++ x.between) p).stance (client_at b (h ++ x.between) p) e = subst Q (sym client_before) m in
      subst P (sym x.entries')
      (stands_own b (h ++ x.between) p e k (k.here ∙ may_here (client_at b (h ++ x.between) p) e (client_at b (h ++ x.between) p).stance n) n)

  pub turns_behind : turns b.state p g ≡ turns b.state p h ++ turn_of (run b.state (h ++ x.between)) p (entry (actors.Client p) e) ∷ []
  turns_behind =
      own_turns b p (run b.state (h ++ x.between)) ((step (run b.state (h ++ x.between)) (actors.Client p) e).after) (h ++ x.between) g []
      (listed (step (run b.state (h ++ x.between)) (actors.Client p) e).reply ∷ []) e enters
      ∙ ap (λ (ts : List Turn). ts ++ turn_of (run b.state (h ++ x.between)) p (entry (actors.Client p) e) ∷ []) turns_before

  -- its handlers, where it leaves them alone
  pub hands_behind : (places : List ℕ) (ms : List Memory) (slots : List ℕ) → Keeps (client_at b h p) (client_at b g p) → HandsStandBy b p h places ms slots
      → HandsStandBy b p g places ms slots
  hands_behind places ms slots k a =
      let P : Client → Type 0 = λ c. Keeps c (client_at b g p) in
      hands_keep b p (run b.state (h ++ x.between)) ((step (run b.state (h ++ x.between)) (actors.Client p) e).after) (h ++ x.between) g []
      (listed (step (run b.state (h ++ x.between)) (actors.Client p) e).reply ∷ []) e places ms slots
      enters (subst P (sym client_before) k) (hands_before places ms slots a)

  -- where others entered nothing, it was ready where the client saw the history last
  pub ready_here : x.between ≡ [] → is_ready (run b.state h) (actors.Client p) e ≡ true
  ready_here n = ap (λ (z : List Entry). is_ready (run b.state z) (actors.Client p) e) (sym (ap (λ (z : List Entry). h ++ z) n ∙ append-nil h)) ∙ x.ready

  pub acted : MayBy (client_at b h p).stance (client_at b h p) e → (x.between ≡ [] → IsTurn b h (actors.Client p) (Some e)) → HasActed May b p h g
  acted m t = record { between = x.between; fits = x.may; event = e; entries' = x.entries'; ready = x.ready; may = m; turn = t }

-- A client behind entries of others.
use Rattle.std.proofs.Common.{◌≡◌, ℕ, Bool, true, false, List, [], ◌∷◌, ◌++◌, refl, sym, ap, ◌∙◌, subst, append_assoc, append-nil}
use Rattle.std.specs.Prelude.{◌&&◌, not, if◌then◌else◌}
use Rattle.con_events.specs.declared.entry.Entry.{Entry}
use Rattle.con_events.specs.declared.script.Step.{Step}
use Rattle.con_handlers.specs.Memory.{Memory}
use Rattle.con_machine.specs.Client.{Client, client_after, FollowsScript}
use Rattle.con_machine.specs.Follows.{steps_of, kinds_of}
use Rattle.con_machine.specs.History.{run}
use Rattle.con_machine.specs.HistoryLaws.{turns-append, turns-other}
use Rattle.con_laws.specs.Rounds.{Begun, client_at}
use Rattle.con_machine.specs.State.{State}
use Rattle.con_machine.specs.Turns.{Turn, turns, turn_of, moved, is_client, is_pending}
use Rattle.con_actors.specs.Door.{Saw, are_others}
use Rattle.con_actors.specs.DoorTurns.{ClientAt}
use Rattle.con_actors.specs.Standing.{ClientStands, is_here}
use Rattle.con_actors.specs.Words.Worker.{IsWorker, HandsAreBy, IsRack, HandsStandBy, ClientIs, places_in}
use Rattle.con_actors.specs.declared.worker.Worker.{Worker}
use Rattle.con_procs.specs.Procs.{is_attached}
use Rattle.con_readers.specs.Reads.{is_open}
use Rattle.con_laws.specs.Presence.{IsSingle}
use Rattle.con_laws.specs.PresenceLaws.{others_stay, single_step}
use Rattle.con_actors.specs.DeskLaws.{run_one}

-- ---- entries of others

-- the client's own record is not moved by others
pub client_other : (b : Begun) (h : List Entry) (x : Entry) (p : ℕ) → is_client p x.actor ≡ false → client_at b (h ++ x ∷ []) p ≡ client_at b h p
client_other b h x p n = ap (client_after (steps_of b.session p) (kinds_of b.racks p)) (turns-other b.state p h x n)

pub stands_other : (b : Begun) (h : List Entry) (x : Entry) (p : ℕ) → is_client p x.actor ≡ false → ClientStands b h p → ClientStands b (h ++ x ∷ []) p
stands_other b h x p n c =
    let s = run b.state h in
    let k = others_stay s x.actor x.event p n in
    let r = run_one b.state h x in
    let e = client_other b h x p n in
    record {
      follows = let P : List Turn → Type 0 = λ ts. FollowsScript (steps_of b.session p) (kinds_of b.racks p) ts in
          subst P (sym (turns-other b.state p h x n)) c.follows;
      here = ap (λ (t : State). is_attached t.procs p) r ∙ (k.attached ∙ (c.here ∙ ap (λ (d : Client). is_here d.stance) (sym e)));
      reading = λ a. ap (λ (t : State). is_open t.reads p) r
          ∙ (k.reading ∙ (c.reading (sym k.attached ∙ (ap (λ (t : State). is_attached t.procs p) (sym r) ∙ a)) ∙ ap (λ (d : Client). d.reading) (sym e)));
      single = let P : State → Type 0 = λ t. IsSingle t p in subst P (sym r) (single_step s x.actor x.event p c.single);
      pending = λ a. ap (λ (t : State). is_pending t p) r ∙ k.pending (c.pending (ap (λ (d : Client). d.pending) (sym e) ∙ a));
    }

apart : (a b : Bool) → (a && b) ≡ true → (a ≡ true) × (b ≡ true)
apart true b e = (refl, e)
apart false b e = absurd (cc)

not_true : (b : Bool) → not b ≡ true → b ≡ false
not_true true e = absurd (cc)
not_true false e = refl

none_of : (s : State) (p : ℕ) (ks : List Entry) → are_others p ks ≡ true → turns s p ks ≡ []
none_of s p [] o = refl
none_of s p (x ∷ xs) o =
    let k = apart (not (is_client p x.actor)) (are_others p xs) o in
    ap (λ (c : Bool). if c then turn_of s p x ∷ turns (moved s x) p xs else turns (moved s x) p xs) (not_true (is_client p x.actor) k.0)
    ∙ none_of (moved s x) p xs k.1

pub turns_others : (s : State) (p : ℕ) (h ks : List Entry) → are_others p ks ≡ true → turns s p (h ++ ks) ≡ turns s p h
turns_others s p h ks o = turns-append s p h ks ∙ (ap (λ (ts : List Turn). turns s p h ++ ts) (none_of (run s h) p ks o) ∙ append-nil (turns s p h))

pub stands_others : (b : Begun) (p : ℕ) (h ks : List Entry) → are_others p ks ≡ true → ClientStands b h p → ClientStands b (h ++ ks) p
stands_others b p h [] o c = let P : List Entry → Type 0 = λ z. ClientStands b z p in subst P (sym (append-nil h)) c
stands_others b p h (x ∷ xs) o c =
    let k = apart (not (is_client p x.actor)) (are_others p xs) o in
    let P : List Entry → Type 0 = λ z. ClientStands b z p in
    subst P (append_assoc h (x ∷ []) xs) (stands_others b p (h ++ x ∷ []) xs k.1 (stands_other b h x p (not_true (is_client p x.actor) k.0) c))

-- the same turns, the same client with the same handlers
pub client_by : (b : Begun) (p : ℕ) (h m : List Entry) → turns b.state p m ≡ turns b.state p h → client_at b m p ≡ client_at b h p
client_by b p h m e = ap (λ (ts : List Turn). client_after (steps_of b.session p) (kinds_of b.racks p) ts) e

pub worker_by : (b : Begun) (p : ℕ) (h m : List Entry) (steps : List Step) (w : Worker)
    → turns b.state p m ≡ turns b.state p h → IsWorker (client_at b h p) steps w → IsWorker (client_at b m p) steps w
worker_by b p h m steps w e i = let P : Client → Type 0 = λ c. IsWorker c steps w in subst P (sym (client_by b p h m e)) i

pub hands_by : (b : Begun) (p : ℕ) (h m : List Entry) (places : List ℕ) (ms : List Memory) (slots : List ℕ)
    → turns b.state p m ≡ turns b.state p h → HandsStandBy b p h places ms slots → HandsStandBy b p m places ms slots
hands_by b p h m places ms slots e a =
    let at : List Turn → Client = λ ts. client_after (steps_of b.session p) (kinds_of b.racks p) ts in
    let P : List Turn → Type 0 = λ ts. HandsAreBy (at ts).chain (at ts).doubtful places ms in
    let Q : List Turn → Type 0 = λ ts. IsRack ts (at ts).kinds slots (places_in (at ts).chain) in
    record { chain = subst P (sym e) a.chain; rack = subst Q (sym e) a.rack }

-- a client as a console by itself has it
pub client_is : (b : Begun) (p : ℕ) (h : List Entry) (steps : List Step) (w : Worker) → ClientAt b p h steps w → ClientIs b p (run b.state h) h steps w
client_is b p h steps w k = record { state = refl; stands = k.stands; worker = k.worker }

module _ (May : List Entry → Type 0) (b : Begun) (p : ℕ) (others : (xs : List Entry) → May xs → are_others p xs ≡ true) where
  -- ---- more was seen

  pub stands_saw : (h g : List Entry) → Saw May h g → ClientStands b h p → ClientStands b g p
  stands_saw h g s c =
      let P : List Entry → Type 0 = λ z. ClientStands b z p in subst P (sym s.entries') (stands_others b p h s.between (others s.between s.may) c)

  pub turns_saw : (h g : List Entry) → Saw May h g → turns b.state p g ≡ turns b.state p h
  turns_saw h g s = ap (λ (z : List Entry). turns b.state p z) s.entries' ∙ turns_others b.state p h s.between (others s.between s.may)

  pub client_saw : (h g : List Entry) (steps : List Step) (w : Worker) → Saw May h g → ClientAt b p h steps w → ClientAt b p g steps w
  client_saw h g steps w s k = record { stands = stands_saw h g s k.stands; worker = worker_by b p h g steps w (turns_saw h g s) k.worker }

  pub hands_saw : (h g : List Entry) (places : List ℕ) (ms : List Memory) (slots : List ℕ) → Saw May h g → HandsStandBy b p h places ms slots
      → HandsStandBy b p g places ms slots
  hands_saw h g places ms slots s a = hands_by b p h g places ms slots (turns_saw h g s) a

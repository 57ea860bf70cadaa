-- A client's turn at a desk: nothing is entered in between, so it is what any door tells, and that exactly.
use Rattle.std.proofs.Common.{◌≡◌, ℕ, Bool, true, false, List, ◌++◌, sym, ap, ◌∙◌, subst, inl, inr, Result, Ok, Err, append-nil}
use Rattle.con_units.specs.declared.code.OutOfMemory.{OutOfMemory}
use Rattle.con_events.specs.declared.actor.Actor.TheVariants as actors
use Rattle.con_events.specs.declared.entry.Entry.{Entry}
use Rattle.con_events.specs.declared.reply.Reply.{Reply}
use Rattle.con_events.specs.declared.script.Step.{Step}
use Rattle.con_handlers.specs.Memory.{Memory}
use Rattle.con_machine.specs.History.{run}
use Rattle.con_laws.specs.Rounds.{Begun, client_at}
use Rattle.con_machine.specs.State.{State}
use Rattle.con_machine.specs.Step.{is_ready}
use Rattle.con_actors.specs.DeskDoor.{IsNothing, Since}
use Rattle.con_actors.specs.DeskSince.{enters_since, rests_since}
use Rattle.con_actors.specs.DoorTurns.{ClientAt, HasActed, HasTurnedBy}
use Rattle.con_actors.specs.Words.Worker.{Acts, ClientIs, HandsStandBy, HandsTurnBy, IsWorker}
use Rattle.con_actors.specs.declared.worker.Worker.{Worker}

pub client_of : (b : Begun) (p : ℕ) (s : State) (h : List Entry) (steps : List Step) (w : Worker) → ClientIs b p s h steps w → ClientAt b p h steps w
client_of b p s h steps w k = record { stands = k.stands; worker = k.worker }

module _ (b : Begun) (p : ℕ) (s t : State) (h g : List Entry) (rs qs : List Reply) (i : s ≡ run b.state h) (k : Since s t h g rs qs) where
  acts_by : HasActed IsNothing b p h g → Acts b p s t h g rs qs
  acts_by x = record {
    event = x.event;
    enters = enters_since s t h g rs qs k x.between (actors.Client p) x.event x.fits x.entries';
    ready = ap (λ (z : State). is_ready z (actors.Client p) x.event)
        (i ∙ ap (λ (z : List Entry). run b.state z) (sym (ap (λ (z : List Entry). h ++ z) x.fits ∙ append-nil h))) ∙ x.ready;
    may = x.may;
    turn = x.turn x.fits;
  }

  pub exact : (r : Result Bool OutOfMemory) (steps : List Step) (w : Worker) (places : List ℕ) (ms : List Memory) (slots : List ℕ)
      → HasTurnedBy IsNothing r b p steps h g w places ms slots → HandsTurnBy r b p s t h g rs qs steps w places ms slots
  exact (Ok true) steps w places ms slots x = (acts_by x.0, x.1.worker, x.2)
  exact (Ok false) steps w places ms slots x =
      let r = rests_since s t h g rs qs k x.0.saw in
      let P : List Entry → Type 0 = λ z. IsWorker (client_at b z p) steps w in
      let Q : List Entry → Type 0 = λ z. HandsStandBy b p z places ms slots in
      (r, x.0.turn x.0.saw.may, subst P r.entries x.1.worker, subst Q r.entries x.2)
  exact (Err e) steps w places ms slots x = elim x.0 [ inl y ↦ inl (rests_since s t h g rs qs k y) | inr y ↦ inr (acts_by y) ]

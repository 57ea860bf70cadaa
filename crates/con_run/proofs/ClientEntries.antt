-- A client's thread behind entries of others.
use Rattle.std.proofs.Common.{ℕ, Bool, List, subst, sym, ap, ◌∙◌}
use Rattle.con_events.specs.declared.actor.Actor.TheVariants as actors
use Rattle.con_events.specs.declared.entry.Entry.{Entry}
use Rattle.con_events.specs.declared.script.Step.{Step}
use Rattle.con_handlers.specs.Memory.{Memory}
use Rattle.con_laws.specs.Rounds.{Begun}
use Rattle.con_machine.specs.State.{State}
use Rattle.con_machine.specs.Turns.{turns}
use Rattle.con_actors.specs.DoorEntries.{hands_by, stands_others, turns_others, worker_by}
use Rattle.con_actors.specs.Standing.{ClientStands}
use Rattle.con_actors.specs.declared.worker.Worker.{Worker}
use Rattle.con_threads.specs.Clients.{ClientGoes}
use Rattle.con_threads.specs.Scribe.{SeesMore}
use Rattle.con_threads.specs.ScribeLaws.{no_client}

-- what its thread sees more of leaves a client as it is
pub goes_sees : (b : Begun) (p : ℕ) (start : State) (h g : List Entry) (steps : List Step) (broken : Bool) (w : Worker) (places : List ℕ) (ms : List Memory)
    (slots : List ℕ)
    → SeesMore start (actors.Client p) h g
    → ClientGoes b p h steps broken w places ms slots → ClientGoes b p g steps broken w places ms slots
goes_sees b p start h g steps broken w places ms slots s k =
    let none = no_client p s.between s.others in
    let e = ap (λ (z : List Entry). turns b.state p z) s.entries' ∙ turns_others b.state p h s.between none in
    let P : List Entry → Type 0 = λ z. ClientStands b z p in
    record {
      stands = subst P (sym s.entries') (stands_others b p h s.between none k.stands);
      worker = λ f. worker_by b p h g steps w e (k.worker f);
      hands = λ f n. hands_by b p h g places ms slots e (k.hands f n);
      dropped = k.dropped;
    }

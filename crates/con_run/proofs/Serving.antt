-- A client's thread behind a turn.
use Rattle.std.proofs.Common.{◌≡◌, ◌≤◌, ℕ, Bool, true, false, List, subst, sym, ap, ◌∙◌, Result, Ok}
use Rattle.con_units.specs.declared.code.OutOfMemory.{OutOfMemory}
use Rattle.con_events.specs.declared.actor.Actor.TheVariants as actors
use Rattle.con_events.specs.declared.entry.Entry.{Entry}
use Rattle.con_events.specs.declared.script.Step.{Step}
use Rattle.con_machine.specs.Client.{Client, Stance, GoesOn, MayLeave, MustLeave, Gone}
use Rattle.con_laws.specs.Rounds.{Begun, client_at}
use Rattle.con_actors.specs.Door.{are_others}
use Rattle.con_actors.specs.DoorEntries.{client_by, turns_saw}
use Rattle.con_actors.specs.DoorTurns.{ClientAt, HasTurnedBy}
use Rattle.con_actors.specs.Words.Worker.{HandsStandBy, IsStance, IsWorker}
use Rattle.con_actors.specs.declared.worker.Worker.{Worker}
use Rattle.con_threads.specs.Clients.{ClientGoes, ClientView, HasServedBy, IsClientThreadBy, ViewGoes}
use Rattle.con_threads.specs.Scribe.{opened, history, IsSameScribe, IsScribe}

never : {A : Type 0} → true ≡ false → A
never e = absurd (cc)

-- what a turn was, of a view
abbrev pub Turned : (List Entry → Type 0) → Result Bool OutOfMemory → ClientView → ClientView → Type 0
Turned May r v w =
    (b : Begun) → opened v.scribe ≡ b.state → ClientAt b v.number (history v.scribe) v.steps v.worker
    → HandsStandBy b v.number (history v.scribe) v.places v.memories v.slots
    → HasTurnedBy May r b v.number v.steps (history v.scribe) (history w.scribe) w.worker w.places w.memories w.slots

-- the same thread behind a turn
pub record Behind (v w : ClientView) : Type 0 where
  pub same : IsSameScribe v.scribe w.scribe
  pub scribe : IsScribe w.scribe
  pub steps : w.steps ≡ v.steps
  pub number : w.number ≡ v.number

served_by : (v w : ClientView) → IsClientThreadBy v → Behind v w → ((b : Begun) → opened v.scribe ≡ b.state → ViewGoes b v → ViewGoes b w) → HasServedBy v w
served_by v w is k goes = record {
  same = k.same;
  steps = k.steps;
  number = k.number;
  is =
      record {
        scribe = k.scribe;
        actor = k.same.actor ∙ (is.actor ∙ ap (λ (n : ℕ). actors.Client n) (sym k.number));
        real = let P : ℕ → Type 0 = λ n. 1 ≤ n in subst P (sym k.number) is.real;
      };
  goes = goes;
}

here_by : (s : Stance) (l k g : Bool) → IsStance s l false → IsStance s k g → g ≡ false
here_by GoesOn l k g i j = j.1
here_by MayLeave l k g i j = j
here_by MustLeave l k g i j = j.1
here_by Gone l k g i j = absurd (cc)

-- a client that entered nothing is still there
still_here : (b : Begun) (p : ℕ) (h g : List Entry) (steps : List Step) (v w : Worker) → client_at b g p ≡ client_at b h p → IsWorker (client_at b h p) steps v
    → v.gone ≡ false → IsWorker (client_at b g p) steps w → w.gone ≡ false
still_here b p h g steps v w e i n j =
    let c = client_at b h p in
    let P : Client → Type 0 = λ z. IsStance z.stance w.leaving w.gone in
    let Q : Bool → Type 0 = λ z. IsStance c.stance v.leaving z in
    here_by c.stance v.leaving w.leaving w.gone (subst Q n i.stance) (subst P e j.stance)

module _ (May : List Entry → Type 0) (v w : ClientView) (others : (xs : List Entry) → May xs → are_others v.number xs ≡ true) (is : IsClientThreadBy v)
    (f : v.broken ≡ false) (n : v.worker.gone ≡ false) (k : Behind v w) where
  steps_are : (b : Begun) → ClientGoes b v.number (history w.scribe) v.steps w.broken w.worker w.places w.memories w.slots → ViewGoes b w
  steps_are b x =
      let P : ℕ → Type 0 = λ z. ClientGoes b z (history w.scribe) v.steps w.broken w.worker w.places w.memories w.slots in
      let Q : List Step → Type 0 = λ z. ClientGoes b w.number (history w.scribe) z w.broken w.worker w.places w.memories w.slots in
      subst Q (sym k.steps) (subst P (sym k.number) x)

  pub served_waits : Turned May (Ok false) v w → HasServedBy v w
  served_waits t = served_by v w is k (λ b i x.
      let y = t b i (record { stands = x.stands; worker = x.worker f }) (x.hands f n) in
      let h = history v.scribe in
      let g = history w.scribe in
      steps_are b (record {
        stands = y.1.stands;
        worker = λ e. y.1.worker;
        hands = λ e o. y.2;
        dropped =
            λ o.
            never (sym o ∙ still_here b v.number h g v.steps v.worker w.worker (client_by b v.number h g (turns_saw May b v.number others h g y.0.saw)) (x.worker f) n y.1.worker);
      }))

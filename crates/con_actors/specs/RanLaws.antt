-- Entries behind entries.
use Rattle.std.proofs.Common.{◌≡◌, Bool, true, false, List, [], ◌∷◌, ◌++◌, refl, sym, ap, ◌∙◌, subst, append_assoc, append-nil}
use Rattle.std.specs.Prelude.{not, ◌&&◌}
use Rattle.std.specs.List.{list_all}
use Rattle.std.proofs.lemmas.List.Folds.{list_all-append}
use Rattle.con_events.specs.declared.actor.Actor.{Actor}
use Rattle.con_events.specs.declared.entry.Entry.{Entry}
use Rattle.con_events.specs.declared.event.Event.{Event}
use Rattle.con_machine.specs.History.{run, is_legal}
use Rattle.con_machine.specs.HistoryLaws.{run-append, legal-append}
use Rattle.con_machine.specs.State.{State}
use Rattle.con_machine.specs.Step.{step, is_ready}
use Rattle.con_actors.specs.Words.Desk.{entry, is_painter, Ran}

pub ran_here : (s : State) (h : List Entry) → Ran s s h h
ran_here s h = record { entries = []; after' = sym (append-nil h); state = refl; legal = refl; others = refl }

pub ran_same : (s t : State) (h g : List Entry) → t ≡ s → g ≡ h → Ran s t h g
ran_same s t h g e i =
    let P : State → Type 0 = λ z. Ran s z h g in let Q : List Entry → Type 0 = λ z. Ran s s h z in subst P (sym e) (subst Q (sym i) (ran_here s h))

pub ran_one : (s t : State) (h g : List Entry) (a : Actor) (e : Event)
    → t ≡ (step s a e).after → g ≡ h ++ entry a e ∷ [] → is_ready s a e ≡ true → is_painter a ≡ false → Ran s t h g
ran_one s t h g a e i j r n =
    record { entries = entry a e ∷ []; after' = j; state = i; legal = ap (λ (b : Bool). b && true) r; others = ap (λ (b : Bool). not b && true) n }

pub ran_then : (s t u : State) (h g k : List Entry) → Ran s t h g → Ran t u g k → Ran s u h k
ran_then s t u h g k x y =
    record {
      entries = x.entries ++ y.entries;
      after' = y.after' ∙ (ap (λ (z : List Entry). z ++ y.entries) x.after' ∙ append_assoc h x.entries y.entries);
      state = y.state ∙ (ap (λ (z : State). run z y.entries) x.state ∙ sym (run-append s x.entries y.entries));
      legal = legal-append s x.entries y.entries
          ∙ (ap (λ (b : Bool). b && is_legal (run s x.entries) y.entries) x.legal ∙ (ap (λ (z : State). is_legal z y.entries) (sym x.state) ∙ y.legal));
      others = list_all-append (λ z. not (is_painter z.actor)) x.entries y.entries
          ∙ (ap (λ (b : Bool). b && list_all (λ z. not (is_painter z.actor)) y.entries) x.others ∙ y.others);
    }

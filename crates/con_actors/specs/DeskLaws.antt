-- A desk's history and its replies behind one more entry.
use Rattle.std.proofs.Common.{◌≡◌, true, List, [], ◌∷◌, ◌++◌, map, sym, ap, ◌∙◌, subst}
use Rattle.std.proofs.lemmas.List.{map-append}
use Rattle.con_events.specs.declared.actor.Actor.{Actor}
use Rattle.con_events.specs.declared.entry.Entry.{Entry}
use Rattle.con_events.specs.declared.event.Event.{Event}
use Rattle.con_events.specs.declared.reply.Reply.{Reply}
use Rattle.con_machine.specs.History.{run, replies_of, is_legal}
use Rattle.con_machine.specs.HistoryLaws.{run-append, replies-append, legal-one}
use Rattle.con_machine.specs.State.{State}
use Rattle.con_machine.specs.Step.{step, is_ready}
use Rattle.con_machine.specs.Turns.{moved}
use Rattle.con_actors.specs.Desk.{listed}
use Rattle.con_actors.specs.Words.Desk.{Enters, Rests, Stands, entry}

pub run_one : (s : State) (h : List Entry) (x : Entry) → run s (h ++ x ∷ []) ≡ moved (run s h) x
run_one s h x = run-append s h (x ∷ [])

-- the console behind an entry
pub entered_run : (start s t : State) (h g : List Entry) (rs qs : List Reply) (a : Actor) (e : Event)
    → s ≡ run start h → Enters s t h g rs qs a e → t ≡ run start g
entered_run start s t h g rs qs a e i n =
    n.state ∙ (ap (λ (z : State). moved z (entry a e)) i ∙ (sym (run_one start h (entry a e)) ∙ ap (λ (z : List Entry). run start z) (sym n.entries)))

pub listed_one : (start : State) (h : List Entry) (x : Entry)
    → map listed (replies_of start (h ++ x ∷ [])) ≡ map listed (replies_of start h) ++ listed (step (run start h) x.actor x.event).reply ∷ []
listed_one start h x = ap (λ (rs : List Reply). map listed rs) (replies-append start h (x ∷ []))
    ∙ map-append listed (replies_of start h) (replies_of (run start h) (x ∷ []))

pub stands_one : (start s t : State) (h g : List Entry) (rs qs : List Reply) (a : Actor) (e : Event)
    → Enters s t h g rs qs a e → is_ready s a e ≡ true → Stands start s h rs → Stands start t g qs
stands_one start s t h g rs qs a e n r k =
    let x = entry a e in
    let P : State → Type 0 = λ z. is_ready z a e ≡ true in
    let R : List Entry → Type 0 = λ z. is_legal start z ≡ true in
    record {
      state = entered_run start s t h g rs qs a e k.state n;
      replies = n.replies ∙ (ap (λ (z : List Reply). z ++ listed (step s a e).reply ∷ []) k.replies
          ∙ (ap (λ (z : State). map listed (replies_of start h) ++ listed (step z a e).reply ∷ []) k.state
          ∙ (sym (listed_one start h x) ∙ ap (λ (z : List Entry). map listed (replies_of start z)) (sym n.entries))));
      legal = subst R (sym n.entries) (legal-one start h x k.legal (subst P k.state r));
    }

pub stands_still : (start s t : State) (h g : List Entry) (rs qs : List Reply) → Rests s t h g rs qs → Stands start s h rs → Stands start t g qs
stands_still start s t h g rs qs r k = record {
  state = r.state ∙ (k.state ∙ ap (λ (z : List Entry). run start z) (sym r.entries));
  replies = r.replies ∙ (k.replies ∙ ap (λ (z : List Entry). map listed (replies_of start z)) (sym r.entries));
  legal = ap (λ (z : List Entry). is_legal start z) r.entries ∙ k.legal;
}

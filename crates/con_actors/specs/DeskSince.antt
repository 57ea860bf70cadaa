-- What was entered since, at a desk.
use Rattle.std.proofs.Common.{◌≡◌, Bool, true, false, List, [], ◌∷◌, ◌++◌, map, refl, sym, ap, ◌∙◌, append_assoc, append-nil}
use Rattle.std.specs.Prelude.{Result, Ok, Err, IfOk, OnErr, not, ◌&&◌}
use Rattle.std.specs.List.{list_all}
use Rattle.std.proofs.lemmas.List.{map-append}
use Rattle.std.proofs.lemmas.List.Folds.{list_all-append}
use Rattle.con_units.specs.declared.code.OutOfMemory.{OutOfMemory}
use Rattle.con_events.specs.declared.actor.Actor.{Actor}
use Rattle.con_events.specs.declared.entry.Entry.{Entry}
use Rattle.con_events.specs.declared.event.Event.{Event}
use Rattle.con_events.specs.declared.reply.Reply.{Reply}
use Rattle.con_machine.specs.History.{run, replies_of}
use Rattle.con_machine.specs.HistoryLaws.{run-append, replies-append, legal-one}
use Rattle.con_machine.specs.State.{State}
use Rattle.con_machine.specs.Step.{step, is_ready}
use Rattle.con_actors.specs.Desk.{listed}
use Rattle.con_actors.specs.Words.Desk.{Enters, Rests, Ran, brief_of, entry, is_painter}
use Rattle.con_actors.specs.Door.{Saw, Entered}
use Rattle.con_actors.specs.DeskLaws.{run_one}
use Rattle.con_actors.specs.declared.desk.Brief.{Brief}
use Rattle.con_actors.specs.DeskDoor.{Since, IsNothing}

-- ---- what was entered since

pub since_here : (s : State) (h : List Entry) (rs : List Reply) → Since s s h h rs rs
since_here s h rs =
    record { ran = record { entries = []; after' = sym (append-nil h); state = refl; legal = refl; others = refl }; replies = sym (append-nil rs) }

module _ (s t u : State) (h g l : List Entry) (rs qs ps : List Reply) (k : Since s t h g rs qs) where
  pub since_rests : Rests t u g l qs ps → Since s u h l rs ps
  since_rests r = record {
    ran = record { entries = k.ran.entries; after' = r.entries ∙ k.ran.after'; state = r.state ∙ k.ran.state; legal = k.ran.legal; others = k.ran.others };
    replies = r.replies ∙ k.replies;
  }

  pub since_enters : (a : Actor) (e : Event) → Enters t u g l qs ps a e → is_ready t a e ≡ true → is_painter a ≡ false → Since s u h l rs ps
  since_enters a e n r p =
      let x = entry a e in
      let told : map listed (replies_of s (k.ran.entries ++ x ∷ [])) ≡ map listed (replies_of s k.ran.entries) ++ listed (step t a e).reply ∷ [] =
      ap (λ (z : List Reply). map listed z) (replies-append s k.ran.entries (x ∷ []))
      ∙ (map-append listed (replies_of s k.ran.entries) (replies_of (run s k.ran.entries) (x ∷ []))
      ∙ ap (λ (z : State). map listed (replies_of s k.ran.entries) ++ listed (step z a e).reply ∷ []) (sym k.ran.state)) in
      record {
        ran = record {
          entries = k.ran.entries ++ x ∷ [];
          after' = n.entries ∙ (ap (λ (z : List Entry). z ++ x ∷ []) k.ran.after' ∙ append_assoc h k.ran.entries (x ∷ []));
          state = n.state ∙ (ap (λ (z : State). (step z a e).after) k.ran.state ∙ sym (run_one s k.ran.entries x));
          legal = legal-one s k.ran.entries x k.ran.legal (ap (λ (z : State). is_ready z a e) (sym k.ran.state) ∙ r);
          others = list_all-append (λ z. not (is_painter z.actor)) k.ran.entries (x ∷ [])
              ∙ (ap (λ (c : Bool). c && list_all (λ z. not (is_painter z.actor)) (x ∷ [])) k.ran.others ∙ ap (λ (c : Bool). not c && true) p);
        };
        replies = n.replies ∙ (ap (λ (z : List Reply). z ++ listed (step t a e).reply ∷ []) k.replies
            ∙ (append_assoc rs (map listed (replies_of s k.ran.entries)) (listed (step t a e).reply ∷ []) ∙ ap (λ (z : List Reply). rs ++ z) (sym told)));
      }

pub since_put : (s t u : State) (h g l : List Entry) (rs qs ps : List Reply) (a : Actor) (e : Event) (r : Result Brief OutOfMemory)
    → is_ready t a e ≡ true → is_painter a ≡ false
    → IfOk r (λ brief. Enters t u g l qs ps a e) → OnErr r (Rests t u g l qs ps) → Since s t h g rs qs → Since s u h l rs ps
since_put s t u h g l rs qs ps a e (Ok brief) ready p x y k = since_enters s t u h g l rs qs ps k a e x ready p
since_put s t u h g l rs qs ps a e (Err err) ready p x y k = since_rests s t u h g l rs qs ps k y

-- ---- the door's clauses, by those of the desk

pub saw_same : (h g : List Entry) → g ≡ h → Saw IsNothing h g
saw_same h g e = record { between = []; may = refl; entries' = e ∙ sym (append-nil h) }

-- a console that is where its history leads from a state goes on so
pub since_run : (s t z : State) (h g : List Entry) → Ran s t h g → s ≡ run z h → t ≡ run z g
since_run s t z h g k i = k.state ∙ (ap (λ (y : State). run y k.entries) i ∙ (sym (run-append z h k.entries) ∙ ap (λ (y : List Entry). run z y) (sym k.after')))

pub desk_entered : (s t u z : State) (h g l : List Entry) (rs qs ps : List Reply) (a : Actor) (e : Event) (brief : Brief)
    → is_ready t a e ≡ true → Enters t u g l qs ps a e → brief ≡ brief_of (step t a e).reply
    → Since s t h g rs qs → s ≡ run z h → Entered IsNothing z a e brief g l
desk_entered s t u z h g l rs qs ps a e brief ready n br k i =
    let now : t ≡ run z (g ++ []) = since_run s t z h g k.ran i ∙ ap (λ (y : List Entry). run z y) (sym (append-nil g)) in
    record {
      between = [];
      may = refl;
      entries' = n.entries ∙ ap (λ (y : List Entry). y ++ entry a e ∷ []) (sym (append-nil g));
      ready = ap (λ (y : State). is_ready y a e) (sym now) ∙ ready;
      brief' = br ∙ ap (λ (y : State). brief_of (step y a e).reply) now;
    }

pub desk_ready : (s t z : State) (h g : List Entry) (rs qs : List Reply) (a : Actor) (e : Event) (b : Bool)
    → b ≡ is_ready t a e → Since s t h g rs qs → s ≡ run z h → b ≡ is_ready (run z g) a e
desk_ready s t z h g rs qs a e b r k i = r ∙ ap (λ (y : State). is_ready y a e) (since_run s t z h g k.ran i)

-- ---- what was entered, by the history alone

same_rest : (h xs ys : List Entry) → h ++ xs ≡ h ++ ys → xs ≡ ys
same_rest [] xs ys e = e
same_rest (x ∷ h) xs ys e = same_rest h xs ys (cc)

module _ (s t : State) (h g : List Entry) (rs qs : List Reply) (k : Since s t h g rs qs) where
  since_by : (rest : List Entry) → g ≡ h ++ rest → (t ≡ run s rest) × (qs ≡ rs ++ map listed (replies_of s rest))
  since_by rest x =
      let e : k.ran.entries ≡ rest = same_rest h k.ran.entries rest (sym k.ran.after' ∙ x) in
      (k.ran.state ∙ ap (λ (z : List Entry). run s z) e, k.replies ∙ ap (λ (z : List Entry). rs ++ map listed (replies_of s z)) e)

  pub rests_since : Saw IsNothing h g → Rests s t h g rs qs
  rests_since x =
      let same : g ≡ h ++ [] = x.entries' ∙ ap (λ (l : List Entry). h ++ l) x.may in
      let b = since_by [] same in
      record { state = b.0; entries = same ∙ append-nil h; replies = b.1 ∙ append-nil rs }

  pub enters_since : (between : List Entry) (a : Actor) (e : Event) → between ≡ [] → g ≡ (h ++ between) ++ entry a e ∷ [] → Enters s t h g rs qs a e
  enters_since between a e may i =
      let same : g ≡ h ++ entry a e ∷ [] =
      i ∙ (ap (λ (z : List Entry). (h ++ z) ++ entry a e ∷ []) may ∙ ap (λ (z : List Entry). z ++ entry a e ∷ []) (append-nil h)) in
      let b = since_by (entry a e ∷ []) same in
      record { state = b.0; entries = same; replies = b.1 }

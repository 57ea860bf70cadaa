-- Asks, behind one more entry.
use Rattle.std.proofs.Common.{◌≡◌, ◌⊎◌, Bool, true, false, List, [], ◌∷◌, ◌++◌, sym, ap, ◌∙◌, inl, inr}
use Rattle.con_events.specs.declared.actor.Actor.{Actor}
use Rattle.con_events.specs.declared.actor.Actor.TheVariants as actors
use Rattle.con_events.specs.declared.entry.Entry.{Entry}
use Rattle.con_events.specs.declared.event.Event.{Event}
use Rattle.con_machine.specs.Words.Along.{after}
use Rattle.con_machine.specs.Follows.{MayAct, asks_by}
use Rattle.con_machine.specs.Words.Follows.{asks}
use Rattle.con_machine.specs.History.{run}
use Rattle.con_machine.specs.HistoryLaws.{after-append, along-one}
use Rattle.con_machine.specs.State.{State}
use Rattle.con_machine.specs.Turns.{is_terminal}
use Rattle.con_laws.specs.PictureLaws.{step_moves}
use Rattle.con_laws.specs.Rounds.{Begun}
use Rattle.con_actors.specs.Words.Desk.{entry}
use Rattle.con_actors.specs.DeskLaws.{run_one}
use Rattle.con_actors.specs.Solo.{AsksStand}

asked_more : (b : Begun) (h : List Entry) (x : Entry) → after asks false h ≡ (run b.state h).asked
    → after asks false (h ++ x ∷ []) ≡ (run b.state (h ++ x ∷ [])).asked
asked_more b h x e =
    after-append asks false h (x ∷ []) ∙ (ap (λ (o : Bool). asks_by o x.event) e
    ∙ (sym (step_moves (run b.state h) x.actor x.event).asks ∙ ap (λ (z : State). z.asked) (sym (run_one b.state h x))))

may_other : (l out : Bool) (a : Actor) → is_terminal a ≡ false → MayAct l out a
may_other l true (actors.Client p) n = tt
may_other l true actors.Terminal n = absurd (cc)
may_other l true actors.Painter n = tt
may_other l false a n = tt

may_terminal : (l out : Bool) → (out ≡ false) ⊎ (l ≡ true) → MayAct l out actors.Terminal
may_terminal l true (inl e) = absurd (cc)
may_terminal l true (inr e) = e
may_terminal l false k = tt

asks_more : (b : Begun) (h : List Entry) (x : Entry) (lost : Bool)
    → ((l : Bool) → (lost ≡ true → l ≡ true) → MayAct l (after asks false h) x.actor) → AsksStand b h lost → AsksStand b (h ++ x ∷ []) lost
asks_more b h x lost may k = record {
  answered = λ l i. along-one (λ out y. MayAct l out y.actor) asks false h x (k.answered l i) (may l i);
  asked' = asked_more b h x k.asked';
}

-- another actor's
pub asks_other : (b : Begun) (h : List Entry) (x : Entry) (lost : Bool) → is_terminal x.actor ≡ false → AsksStand b h lost → AsksStand b (h ++ x ∷ []) lost
asks_other b h x lost n k = asks_more b h x lost (λ l i. may_other l (after asks false h) x.actor n) k

-- the terminal's side's own, if nothing was asked for, or a Paint may be missing
pub asks_own : (b : Begun) (h : List Entry) (event : Event) (lost : Bool) → ((run b.state h).asked ≡ false) ⊎ (lost ≡ true) → AsksStand b h lost
    → AsksStand b (h ++ entry actors.Terminal event ∷ []) lost
asks_own b h event lost served k =
    asks_more b h (entry actors.Terminal event) lost
    (λ l i. may_terminal l (after asks false h) (elim served [ inl n ↦ inl (k.asked' ∙ n) | inr f ↦ inr (i f) ])) k

-- and where more may be missing
pub asks_lost : (b : Begun) (h : List Entry) (lost more : Bool) → (lost ≡ true → more ≡ true) → AsksStand b h lost → AsksStand b h more
asks_lost b h lost more i k = record { answered = λ l j. k.answered l (λ e. j (i e)); asked' = k.asked' }

-- A call that adds or removes a handler.
use Rattle.std.proofs.Common.{◌≡◌, ℕ, ◌+◌, Bool, true, false, List, [], ◌∷◌, refl, sym, ap, ◌∙◌, subst, drop}
use Rattle.std.specs.Prelude.{◌==◌, ◌&&◌, not, if◌then◌else◌}
use Rattle.con_events.specs.declared.call.Call.{Call}
use Rattle.con_events.specs.declared.call.Call.TheVariants as calls
use Rattle.con_events.specs.declared.event.Event.TheVariants as events
use Rattle.con_events.specs.declared.reply.Reply.{Reply}
use Rattle.con_events.specs.declared.script.Step.{Step}
use Rattle.con_machine.specs.Added.{adds}
use Rattle.con_machine.specs.Chain.{Handler}
use Rattle.con_machine.specs.Words.Chain.{without_handler}
use Rattle.con_machine.specs.Client.{Client, GoesOn, entered, is_fail, chained}
use Rattle.con_actors.specs.Words.Desk.{brief_of, is_refused}
use Rattle.con_actors.specs.Words.Worker.{IsStance, IsWorker, places_in}
use Rattle.con_actors.specs.RackLaws.{without}
use Rattle.con_actors.specs.StepLaws.{drop_one, refused_is}
use Rattle.con_actors.specs.declared.desk.Brief.{Brief}
use Rattle.con_actors.specs.declared.worker.Worker.{Worker}

-- the client after it, but for its handlers
pub stepped : (c d : Client) (steps : List Step) (w : Worker) → IsWorker c steps w → w.gone ≡ false → w.leaving ≡ false → d.left ≡ drop 1 c.left
    → d.reading ≡ c.reading → d.stance ≡ GoesOn → IsWorker d steps (record w { at = w.at + 1 })
stepped c d steps w k n l left reading stance = record {
  left = left ∙ (ap (λ (x : List Step). drop 1 x) k.left ∙ drop_one w.at steps);
  reading = reading ∙ k.reading;
  stance = let P : Rattle.con_machine.specs.Client.Stance → Type 0 = λ x. IsStance x w.leaving w.gone in subst P (sym stance) (l, n);
}

-- ---- one that was refused

pub refused_entry : (c : Client) (call : Call) (r : Reply) → is_fail r ≡ true
    → entered c (events.Call call) r ≡ record c { left = drop 1 c.left; stance = GoesOn }
refused_entry c call r e = by (is_fail r) e
  where
    by : (b : Bool) → b ≡ true → (if b then record c { left = drop 1 c.left; stance = GoesOn }
        else chained (record c { left = drop 1 c.left; stance = GoesOn }) call) ≡ record c { left = drop 1 c.left; stance = GoesOn }
    by true e = refl
    by false e = absurd (cc)

pub granted_entry : (c : Client) (call : Call) (r : Reply) → is_fail r ≡ false
    → entered c (events.Call call) r ≡ chained (record c { left = drop 1 c.left; stance = GoesOn }) call
granted_entry c call r e = by (is_fail r) e
  where
    by : (b : Bool) → b ≡ false → (if b then record c { left = drop 1 c.left; stance = GoesOn }
        else chained (record c { left = drop 1 c.left; stance = GoesOn }) call) ≡ chained (record c { left = drop 1 c.left; stance = GoesOn }) call
    by true e = absurd (cc)
    by false e = refl

-- whether a call was refused, as a worker sees it
pub fails_by : (granted : Bool) (brief : Brief) (r : Reply) → granted ≡ not (is_refused brief) → brief ≡ brief_of r → is_fail r ≡ not granted
fails_by granted brief r g e = sym (ap not (g ∙ ap (λ (x : Brief). not (is_refused x)) e) ∙ (twice (is_refused (brief_of r)) ∙ refused_is r))
  where
    twice : (b : Bool) → not (not b) ≡ b
    twice true = refl
    twice false = refl

-- ---- one that was done

pub adds_here : (place j : ℕ) (r : Reply) → is_fail r ≡ false → adds j (events.Call (calls.HandlerAdd place)) r ≡ (place == j)
adds_here place j r f = by (place == j) (is_fail r) f
  where
    by : (x y : Bool) → y ≡ false → (x && not y) ≡ x
    by true y e = rw e refl
    by false y e = refl

pub places_without : (hs : List Handler) (place : ℕ) → places_in (without_handler hs place) ≡ without place (places_in hs)
places_without [] place = refl
places_without (h ∷ hs) place = by (not (h.place == place)) (places_without hs place)
  where
    by : (b : Bool) → places_in (without_handler hs place) ≡ without place (places_in hs) → places_in (if b then h ∷ without_handler hs place
        else without_handler hs place) ≡ (if b then h.place ∷ without place (places_in hs) else without place (places_in hs))
    by true e = ap (λ (xs : List ℕ). h.place ∷ xs) e
    by false e = e

-- Who paints, and how many Paints there are.
use Rattle.std.proofs.Common.{◌≡◌, ◌+◌, Bool, true, false, List, [], ◌∷◌, ◌++◌, refl, ap, ◌∙◌, arith}
use Rattle.std.specs.Prelude.{◌||◌, if◌then◌else◌}
use Rattle.std.proofs.lemmas.Bool.{and_parts}
use Rattle.con_events.specs.declared.actor.Actor.{Actor}
use Rattle.con_events.specs.declared.actor.Actor.TheVariants as actors
use Rattle.con_events.specs.declared.entry.Entry.{Entry}
use Rattle.con_events.specs.declared.event.Event.{Event}
use Rattle.con_events.specs.declared.event.Event.TheVariants as events
use Rattle.con_machine.specs.HistoryLaws.{paints-append}
use Rattle.con_machine.specs.State.{State}
use Rattle.con_machine.specs.Step.{is_ready, is_actors, is_outside, is_due, client_of}
use Rattle.con_machine.specs.Turns.{paints, is_paint}
use Rattle.con_actors.specs.Words.Desk.{entry}

-- ---- what is entered is the actor's

pub actors_event : (s : State) (a : Actor) (e : Event) → is_ready s a e ≡ true → is_actors a e ≡ true
unfolding is_ready
actors_event s a e r = (and_parts (is_actors a e) (is_outside s a e || is_due s (client_of a) e) r).0

pub no_paint_of : (a : Actor) (e : Event) → is_actors a e ≡ true → (a ≡ actors.Painter → ⊥) → is_paint e ≡ false
no_paint_of a (events.Call c) i n = refl
no_paint_of a (events.Begin w) i n = refl
no_paint_of a events.Collect i n = refl
no_paint_of a events.TakeCtrl i n = refl
no_paint_of a (events.Exit status) i n = refl
no_paint_of a (events.Feed bytes) i n = refl
no_paint_of a events.Quiet i n = refl
no_paint_of a (events.Resize z) i n = refl
no_paint_of a events.Ask i n = refl
no_paint_of a events.Hangup i n = refl
no_paint_of a events.Drained i n = refl
no_paint_of (actors.Client p) events.Paint i n = absurd (cc)
no_paint_of actors.Terminal events.Paint i n = absurd (cc)
no_paint_of actors.Painter events.Paint i n = absurd (n refl)

pub no_paint : (s : State) (a : Actor) (e : Event) → is_ready s a e ≡ true → (a ≡ actors.Painter → ⊥) → is_paint e ≡ false
no_paint s a e r n = no_paint_of a e (actors_event s a e r) n

pub paints_same : (h g : List Entry) (x : Entry) → g ≡ h ++ x ∷ [] → is_paint x.event ≡ false → paints g ≡ paints h
paints_same h g x e n = ap paints e
    ∙ (paints-append h (x ∷ []) ∙ (ap (λ (b : Bool). paints h + ((if b then 1 else 0) + 0)) n ∙ (let z : paints h + (0 + 0) ≡ paints h = omega arith in z)))

pub paints_next : (h g : List Entry) → g ≡ h ++ entry actors.Painter events.Paint ∷ [] → paints g ≡ paints h + 1
paints_next h g e = ap paints e ∙ paints-append h (entry actors.Painter events.Paint ∷ [])

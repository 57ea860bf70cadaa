-- Where a history shows all and nothing is asked for, no Paint is due.
use Rattle.std.proofs.Common.{◌≡◌, Bool, true, false, ◌||◌, List, [], ◌∷◌, refl, sym, ap, ◌∙◌}
use Rattle.std.specs.Prelude.{Option, Some}
use Rattle.con_units.specs.declared.view.View.{View}
use Rattle.con_events.specs.declared.actor.Actor.{Actor}
use Rattle.con_events.specs.declared.actor.Actor.TheVariants as actors
use Rattle.con_events.specs.declared.entry.Entry.{Entry}
use Rattle.con_events.specs.declared.event.Event.{Event}
use Rattle.con_events.specs.declared.event.Event.TheVariants as events
use Rattle.con_machine.specs.State.{State}
use Rattle.con_machine.specs.Painting.{view_now}
use Rattle.con_machine.specs.Words.Painting.{differs}
use Rattle.con_machine.specs.Moves.{resizes_by, painted_by}
use Rattle.con_laws.specs.PictureLaws.{step_moves}
use Rattle.con_machine.specs.SameViews.{shows_same}
use Rattle.con_machine.specs.Step.{is_ready, is_due}
use Rattle.con_machine.specs.History.{run}
use Rattle.con_machine.specs.HistoryLaws.{run-append}
use Rattle.con_machine.specs.Turns.{moved, is_paint, is_terminal}
use Rattle.con_machine.specs.Words.Follows.{asks}
use Rattle.con_machine.specs.Words.Along.{after}
use Rattle.con_laws.specs.Whole.{is_pictured, ShowsAll}
use Rattle.con_laws.specs.WholeWords.{are_pictured}

-- an Ask is the terminal's
pub ask_is_terminals : (s : State) (a : Actor) → is_ready s a events.Ask ≡ true → is_terminal a ≡ true
unfolding is_ready
ask_is_terminals s (actors.Client p) e = absurd (cc)
ask_is_terminals s actors.Terminal e = refl
ask_is_terminals s actors.Painter e = absurd (cc)

-- what is asked for is told by the history
pub asked_after : (s : State) (h : List Entry) → (run s h).asked ≡ after asks s.asked h
asked_after s [] = refl
asked_after s (x ∷ xs) = asked_after (moved s x) xs ∙ ap (λ b. after asks b xs) (step_moves s x.actor x.event).asks

not_pictured : (s : State) (e : Event) → is_pictured e ≡ false → (painted_by s e ≡ s.painted) × (resizes_by s.resized e ≡ s.resized)
not_pictured s (events.Call c) n = (refl, refl)
not_pictured s (events.Begin w) n = (refl, refl)
not_pictured s events.Collect n = (refl, refl)
not_pictured s events.TakeCtrl n = (refl, refl)
not_pictured s (events.Exit k) n = (refl, refl)
not_pictured s (events.Feed b) n = (refl, refl)
not_pictured s events.Quiet n = (refl, refl)
not_pictured s (events.Resize z) n = absurd (cc)
not_pictured s events.Ask n = (refl, refl)
not_pictured s events.Hangup n = (refl, refl)
not_pictured s events.Drained n = (refl, refl)
not_pictured s events.Paint n = absurd (cc)

neither : (a b : Bool) → (a || b) ≡ false → (a ≡ false) × (b ≡ false)
neither true b e = absurd (cc)
neither false b e = (refl, e)

still : (s : State) (h : List Entry) → are_pictured h ≡ false → ((run s h).painted ≡ s.painted) × ((run s h).resized ≡ s.resized)
still s [] n = (refl, refl)
still s (x ∷ xs) n =
    let t = neither (is_pictured x.event) (are_pictured xs) n in
    let m = step_moves s x.actor x.event in
    let k = not_pictured s x.event t.0 in
    let r = still (moved s x) xs t.1 in
    (r.0 ∙ m.paints ∙ k.0, r.1 ∙ m.sizes ∙ k.1)

paints_it : (s : State) (e : Event) → is_paint e ≡ true → (painted_by s e ≡ Some (view_now s)) × (resizes_by s.resized e ≡ false)
paints_it s (events.Call c) n = absurd (cc)
paints_it s (events.Begin w) n = absurd (cc)
paints_it s events.Collect n = absurd (cc)
paints_it s events.TakeCtrl n = absurd (cc)
paints_it s (events.Exit k) n = absurd (cc)
paints_it s (events.Feed b) n = absurd (cc)
paints_it s events.Quiet n = absurd (cc)
paints_it s (events.Resize z) n = absurd (cc)
paints_it s events.Ask n = absurd (cc)
paints_it s events.Hangup n = absurd (cc)
paints_it s events.Drained n = absurd (cc)
paints_it s events.Paint n = (refl, refl)

-- where a history shows all, its end is what was painted last, and no Resize stands behind that
shown_last : (s : State) (h : List Entry) → ShowsAll s h → ((run s h).painted ≡ Some (view_now (run s h))) × ((run s h).resized ≡ false)
shown_last s h a =
    let f = run s a.front in
    let e : run s h ≡ run (moved f a.last) a.back = ap (run s) a.parts ∙ run-append s a.front (a.last ∷ a.back) in
    let m = step_moves f a.last.actor a.last.event in
    let p = paints_it f a.last.event a.paint in
    let k = still (moved f a.last) a.back a.none in
    (ap (λ (t : State). t.painted) e ∙ k.0 ∙ m.paints ∙ p.0 ∙ ap (λ v. Some v) a.view, ap (λ (t : State). t.resized) e ∙ k.1 ∙ m.sizes ∙ p.1)

-- a view does not differ from itself
same_now : (v : View) → differs v (Some v) ≡ false
same_now v = sym (shows_same true v v ((λ e. refl), (λ e. refl)))

due : (r a : Bool) (v : View) (o : Option View) → r ≡ false → a ≡ false → o ≡ Some v → (r || a || differs v o) ≡ false
due r a v o e f g = rw (e, f, g) (same_now v)

-- from any console
pub nothing_due : (s : State) (h : List Entry) → ShowsAll s h → (run s h).asked ≡ false → is_ready (run s h) actors.Painter events.Paint ≡ false
unfolding is_ready is_due
nothing_due s h a n =
    let t = run s h in
    let l = shown_last s h a in
    due t.resized t.asked (view_now t) t.painted l.1 n l.0

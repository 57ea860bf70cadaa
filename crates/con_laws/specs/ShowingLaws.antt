-- Where no Paint is ready, the last one shows what there is.
use Rattle.std.proofs.Common.{◌≡◌, ◌⊎◌, ℕ, Bool, true, false, List, [], ◌∷◌, ◌++◌, Option, Some, None, refl, sym, ap, ◌∙◌, inl, inr}
use Rattle.std.specs.Prelude.{◌||◌, not}
use Rattle.con_units.specs.declared.view.View.{View}
use Rattle.con_events.specs.Session.{Clients}
use Rattle.con_events.specs.declared.actor.Actor.{Actor}
use Rattle.con_events.specs.declared.actor.Actor.TheVariants as actors
use Rattle.con_events.specs.declared.entry.Entry.{Entry}
use Rattle.con_events.specs.declared.event.Event.{Event}
use Rattle.con_events.specs.declared.event.Event.TheVariants as events
use Rattle.con_machine.specs.State.{State}
use Rattle.con_machine.specs.Step.{step, is_ready, is_due}
use Rattle.con_machine.specs.Painting.{view_now, same_view}
use Rattle.con_machine.specs.Words.Painting.{differs}
use Rattle.con_machine.specs.History.{run}
use Rattle.con_machine.specs.Turns.{moved, is_paint}
use Rattle.con_machine.specs.Follows.{session_start}
use Rattle.con_laws.specs.WholeWords.{are_pictured}
use Rattle.con_laws.specs.Whole.{ShowsAll}
use Rattle.con_machine.specs.SameViews.{view_is}
use Rattle.con_laws.specs.PictureLaws.{step_moves}

-- no Paint and no Resize stands in a history
record Same (s : State) (h : List Entry) : Type 0 where
  none : are_pictured h ≡ false
  paints : (run s h).painted ≡ s.painted
  sizes : (run s h).resized ≡ s.resized

-- the last of them is a Paint
record Last (s : State) (h : List Entry) : Type 0 where
  front : List Entry
  last : Entry
  back : List Entry
  parts : h ≡ front ++ last ∷ back
  paint : is_paint last.event ≡ true
  none : are_pictured back ≡ false
  paints : (run s h).painted ≡ Some (view_now (run s front))

-- an entry before a history without them
before : (s : State) (a : Actor) (e : Event) (xs : List Entry) → (run (step s a e).after xs).resized ≡ false → Same (step s a e).after xs
    → let h : List Entry = (record { actor = a; event = e }) ∷ xs in Same s h ⊎ Last s h
before s a (events.Call c) xs r k =
    let m = step_moves s a (events.Call c) in inl (record { none = k.none; paints = k.paints ∙ m.paints; sizes = k.sizes ∙ m.sizes })
before s a (events.Begin w) xs r k =
    let m = step_moves s a (events.Begin w) in inl (record { none = k.none; paints = k.paints ∙ m.paints; sizes = k.sizes ∙ m.sizes })
before s a events.Collect xs r k =
    let m = step_moves s a events.Collect in inl (record { none = k.none; paints = k.paints ∙ m.paints; sizes = k.sizes ∙ m.sizes })
before s a events.TakeCtrl xs r k =
    let m = step_moves s a events.TakeCtrl in inl (record { none = k.none; paints = k.paints ∙ m.paints; sizes = k.sizes ∙ m.sizes })
before s a (events.Exit status) xs r k =
    let m = step_moves s a (events.Exit status) in inl (record { none = k.none; paints = k.paints ∙ m.paints; sizes = k.sizes ∙ m.sizes })
before s a (events.Feed bytes) xs r k =
    let m = step_moves s a (events.Feed bytes) in inl (record { none = k.none; paints = k.paints ∙ m.paints; sizes = k.sizes ∙ m.sizes })
before s a events.Quiet xs r k = let m = step_moves s a events.Quiet in inl (record { none = k.none; paints = k.paints ∙ m.paints; sizes = k.sizes ∙ m.sizes })
before s a (events.Resize size) xs r k = let m = step_moves s a (events.Resize size) in absurd (let e : true ≡ false = sym m.sizes ∙ (sym k.sizes ∙ r) in cc)
before s a events.Ask xs r k = let m = step_moves s a events.Ask in inl (record { none = k.none; paints = k.paints ∙ m.paints; sizes = k.sizes ∙ m.sizes })
before s a events.Hangup xs r k =
    let m = step_moves s a events.Hangup in inl (record { none = k.none; paints = k.paints ∙ m.paints; sizes = k.sizes ∙ m.sizes })
before s a events.Drained xs r k =
    let m = step_moves s a events.Drained in inl (record { none = k.none; paints = k.paints ∙ m.paints; sizes = k.sizes ∙ m.sizes })
before s a events.Paint xs r k =
    let m = step_moves s a events.Paint in
    let x : Entry = record { actor = a; event = events.Paint } in
    inr (record { front = []; last = x; back = xs; parts = refl; paint = refl; none = k.none; paints = k.paints ∙ m.paints })

last_one : (s : State) (h : List Entry) → (run s h).resized ≡ false → Same s h ⊎ Last s h
last_one s [] r = inl (record { none = refl; paints = refl; sizes = refl })
last_one s (x ∷ xs) r = elim (last_one (moved s x) xs r) [
  | inl k ↦ before s x.actor x.event xs r k
  | inr l ↦ inr
      (record {
        front =
            x ∷ l.front;
        last = l.last;
        back = l.back;
        parts = ap (λ (g : List Entry). x ∷ g) l.parts;
        paint = l.paint;
        none = l.none;
        paints = l.paints;
      })
]

-- where no Paint is due, there was no Resize, and the view was painted
same_last : (v w : View) → not (same_view v w) ≡ false → same_view v w ≡ true
same_last v w e = by_test (same_view v w) e
  where
    by_test : (b : Bool) → not b ≡ false → b ≡ true
    by_test true e = refl
    by_test false e = cc

not_due : (r a : Bool) (v : View) (o : Option View) → (r || a || differs v o) ≡ false → (r ≡ false) × (o ≡ Some v)
not_due true a v o e = absurd (cc)
not_due false true v o e = absurd (cc)
not_due false false v None e = absurd (cc)
not_due false false v (Some w) e = (refl, ap (λ (u : View). Some u) (sym (view_is v w (same_last v w e))))

one_of : (o : Option View) (v w : View) → o ≡ Some v → o ≡ Some w → v ≡ w
one_of o v w d e = cc

none_of : (o : Option View) (v : View) → o ≡ None → o ≡ Some v → ⊥
none_of o v d e = cc

-- from a console that was not painted
pub shows_all : (s : State) (h : List Entry) → s.painted ≡ None → is_ready (run s h) actors.Painter events.Paint ≡ false → ShowsAll s h
unfolding is_ready is_due
shows_all s h n e =
    let t = run s h in
    let u = not_due t.resized t.asked (view_now t) t.painted e in
    elim (last_one s h u.0) [
      | inl k ↦ absurd (none_of t.painted (view_now t) (k.paints ∙ n) u.1)
      | inr l ↦ record {
        front = l.front;
        last = l.last;
        back =
            l.back;
        parts = l.parts;
        paint = l.paint;
        none = l.none;
        view = one_of t.painted (view_now (run s l.front)) (view_now t) l.paints u.1;
      }
    ]

pub painted_shows : (session : Clients) (racks : List (List ℕ)) (h : List Entry)
    → is_ready (run (session_start session racks) h) actors.Painter events.Paint ≡ false
    → ShowsAll (session_start session racks) h
painted_shows session racks h e = shows_all (session_start session racks) h refl e

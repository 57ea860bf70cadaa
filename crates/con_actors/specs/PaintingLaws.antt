-- The painter behind one more entry.
use Rattle.std.proofs.Common.{◌≡◌, ℕ, ◌*◌, ◌<◌, ◌≤◌, Bool, true, false, List, [], ◌∷◌, ◌++◌, Option, Some, None, refl, sym, ap, ◌∙◌, subst, append-nil}
use Rattle.std.specs.Prelude.{◌||◌, is_none}
use Rattle.con_units.specs.Glyph.{Glyph}
use Rattle.con_units.specs.declared.place.Size.{Size}
use Rattle.con_units.specs.declared.view.View.{View}
use Rattle.con_units.specs.declared.view.Sight.{Sight}
use Rattle.con_units.specs.declared.view.Sight.TheVariants as sights
use Rattle.con_term.specs.Play.{play, printed}
use Rattle.con_term.specs.Terminal.{Terminal, IsTerminal}
use Rattle.con_strokes.specs.Compared.{differing, IsLifted}
use Rattle.con_paint.specs.Painter.{Kept, Allows, Paints, IsShown, unpainted}
use Rattle.con_events.specs.declared.actor.Actor.{Actor}
use Rattle.con_events.specs.declared.actor.Actor.TheVariants as actors
use Rattle.con_events.specs.declared.entry.Entry.{Entry}
use Rattle.con_events.specs.declared.event.Event.{Event}
use Rattle.con_events.specs.declared.event.Event.TheVariants as events
use Rattle.con_machine.specs.History.{run}
use Rattle.con_machine.specs.HistoryLaws.{run-append, sights-one}
use Rattle.con_machine.specs.Painting.{view_now}
use Rattle.con_machine.specs.Words.Painting.{is_fresh}
use Rattle.con_laws.specs.PictureLaws.{step_moves}
use Rattle.con_laws.specs.Rounds.{Begun}
use Rattle.con_machine.specs.Sights.{sights_of, sights_at}
use Rattle.con_machine.specs.SizeLaws.{step_keeps_size}
use Rattle.con_machine.specs.State.{State}
use Rattle.con_machine.specs.Step.{step}
use Rattle.con_machine.specs.Turns.{is_paint}
use Rattle.con_actors.specs.Words.Desk.{entry}
use Rattle.con_actors.specs.Painting.{KeepsView, Reached, PainterStands}
use Rattle.con_actors.specs.Words.Runs.{Painted, Matched, EachPiece, Reaches}
use Rattle.con_actors.specs.RunLaws.{matched_paint, piece_paint, reach_paint, piece_none, matched_resize, piece_resize, reach_resize}

-- the same over plain lists and states
pub record StandsOf (ss : List Sight) (s : State) (size : Size) (kept : Kept) (ps : List (List ℕ)) : Type 0 where
  pub matched : Matched ss ps
  pub each : (t : Terminal) → IsTerminal size.w size.h t → EachPiece Painted t None ss ps
  pub reach : (t : Terminal) → IsTerminal size.w size.h t → (u : Terminal) (l : Option View) → Reaches t None ss ps u l → Reached s kept u l
  pub keeps : is_fresh s ≡ false → KeepsView s kept

pub of_stands : (b : Begun) (h : List Entry) (size : Size) (kept : Kept) (ps : List (List ℕ)) → PainterStands b h size kept ps
    → StandsOf (sights_of b.state h) (run b.state h) size kept ps
of_stands b h size kept ps k = record { matched = k.matched; each = k.each; reach = k.reach; keeps = k.keeps }

pub to_stands : (b : Begun) (h : List Entry) (size : Size) (kept : Kept) (ps : List (List ℕ))
    → StandsOf (sights_of b.state h) (run b.state h) size kept ps → PainterStands b h size kept ps
to_stands b h size kept ps k = record { matched = k.matched; each = k.each; reach = k.reach; keeps = k.keeps }

-- one more entry
pub step_stands : (b : Begun) (h g : List Entry) (x : Entry) (size : Size) (kept : Kept) (ps : List (List ℕ)) → g ≡ h ++ x ∷ []
    → StandsOf (sights_of b.state h ++ sights_at (run b.state h) x.event) ((step (run b.state h) x.actor x.event).after) size kept ps
    → PainterStands b g size kept ps
step_stands b h g x size kept ps e k =
    let P : List Entry → Type 0 = λ z. PainterStands b z size kept ps in
    let Q : List Sight → Type 0 = λ ss. StandsOf ss (run b.state (h ++ x ∷ [])) size kept ps in
    let R : State → Type 0 = λ s. StandsOf (sights_of b.state h ++ sights_at (run b.state h) x.event) s size kept ps in
    subst P (sym e) (to_stands b (h ++ x ∷ []) size kept ps (subst Q (sym (sights-one b.state h x)) (subst R (sym (run-append b.state h (x ∷ []))) k)))

pub fresh_same : (s t : State) → t.resized ≡ s.resized → t.painted ≡ s.painted → is_fresh t ≡ is_fresh s
fresh_same s t r p = ap (λ (b : Bool). b || is_none t.painted) r ∙ ap (λ (o : Option View). s.resized || is_none o) p

-- an entry that neither sizes nor paints
pub still : (ss : List Sight) (s t : State) (size : Size) (kept : Kept) (ps : List (List ℕ)) → t.resized ≡ s.resized → t.painted ≡ s.painted
    → t.buffers.w ≡ s.buffers.w → t.buffers.h ≡ s.buffers.h → StandsOf ss s size kept ps → StandsOf (ss ++ []) t size kept ps
still ss s t size kept ps r p w h k =
    let f = fresh_same s t r p in
    let Q : List Sight → Type 0 = λ x. StandsOf x t size kept ps in
    subst Q (sym (append-nil ss)) (record {
      matched = k.matched;
      each = k.each;
      reach = λ x i u l q. let d = k.reach x i u l q in record {
        fresh = λ e. let a = d.fresh (sym f ∙ e) in let T : ℕ → Type 0 = λ y. IsTerminal y t.buffers.h u in
            let U : ℕ → Type 0 = λ y. IsTerminal s.buffers.w y u in (subst T (sym w) (subst U (sym h) a.0), a.1);
        allowed = λ e. let a = d.allowed (sym f ∙ e) in (a.0, a.1 ∙ sym p);
      };
      keeps = λ e. let q = k.keeps
          (sym f ∙ e) in record { old = q.old; painted' = p ∙ q.painted'; known = q.known; cells = q.cells; wide = q.wide ∙ sym w; high = q.high ∙ sym h };
    })

-- a Resize
pub resized : (ss : List Sight) (s t : State) (z : Size) (size : Size) (kept : Kept) (ps : List (List ℕ))
    → t.resized ≡ true → t.buffers.w ≡ z.w → t.buffers.h ≡ z.h → StandsOf ss s size kept ps → StandsOf (ss ++ sights.Resize z ∷ []) t size kept ps
resized ss s t z size kept ps r w h k =
    let f : is_fresh t ≡ true = ap (λ (b : Bool). b || is_none t.painted) r in
    record {
      matched = matched_resize ss ps z k.matched;
      each = λ x i. piece_resize Painted x None ss ps z k.matched (k.each x i);
      reach = λ x i u l q. let d = reach_resize x None ss ps z u l k.matched q in let T : ℕ → Type 0 = λ y. IsTerminal y t.buffers.h u in
          let U : ℕ → Type 0 = λ y. IsTerminal z.w y u in record {
            fresh = λ e. (subst T (sym w) (subst U (sym h) d.0), d.1);
            allowed = λ e. absurd (let n = sym f ∙ e in cc);
          };
      keeps = λ e. absurd (let n = sym f ∙ e in cc);
    }

pub plain : (ss : List Sight) (s : State) (a : Actor) (e : Event) (size : Size) (kept : Kept) (ps : List (List ℕ))
    → Rattle.con_machine.specs.Moves.resizes_by s.resized e ≡ s.resized → Rattle.con_machine.specs.Moves.painted_by s e ≡ s.painted
    → Rattle.con_machine.specs.Sizes.width_by s.buffers.w e ≡ s.buffers.w → Rattle.con_machine.specs.Sizes.height_by s.buffers.h e ≡ s.buffers.h
    → StandsOf ss s size kept ps → StandsOf (ss ++ []) ((step s a e).after) size kept ps
plain ss s a e size kept ps r p w h k = let m = step_moves s a e in let z = step_keeps_size s a e in
    still ss s ((step s a e).after) size kept ps (m.sizes ∙ r) (m.paints ∙ p) (z.wide ∙ w) (z.high ∙ h) k

pub other_by : (ss : List Sight) (s : State) (a : Actor) (e : Event) (size : Size) (kept : Kept) (ps : List (List ℕ))
    → is_paint e ≡ false → StandsOf ss s size kept ps → StandsOf (ss ++ sights_at s e) ((step s a e).after) size kept ps
other_by ss s a (events.Call c) size kept ps n k = plain ss s a (events.Call c) size kept ps refl refl refl refl k
other_by ss s a (events.Begin w) size kept ps n k = plain ss s a (events.Begin w) size kept ps refl refl refl refl k
other_by ss s a events.Collect size kept ps n k = plain ss s a events.Collect size kept ps refl refl refl refl k
other_by ss s a events.TakeCtrl size kept ps n k = plain ss s a events.TakeCtrl size kept ps refl refl refl refl k
other_by ss s a (events.Exit status) size kept ps n k = plain ss s a (events.Exit status) size kept ps refl refl refl refl k
other_by ss s a (events.Feed bytes) size kept ps n k = plain ss s a (events.Feed bytes) size kept ps refl refl refl refl k
other_by ss s a events.Quiet size kept ps n k = plain ss s a events.Quiet size kept ps refl refl refl refl k
other_by ss s a (events.Resize z) size kept ps n k = let m = step_moves s a (events.Resize z) in let q = step_keeps_size s a (events.Resize z) in
    resized ss s ((step s a (events.Resize z)).after) z size kept ps m.sizes q.wide q.high k
other_by ss s a events.Ask size kept ps n k = plain ss s a events.Ask size kept ps refl refl refl refl k
other_by ss s a events.Hangup size kept ps n k = plain ss s a events.Hangup size kept ps refl refl refl refl k
other_by ss s a events.Drained size kept ps n k = plain ss s a events.Drained size kept ps refl refl refl refl k
other_by ss s a events.Paint size kept ps n k = absurd (cc)

-- an entry that is no Paint
pub painter_other : (b : Begun) (h g : List Entry) (x : Entry) (size : Size) (kept : Kept) (ps : List (List ℕ))
    → is_paint x.event ≡ false → g ≡ h ++ x ∷ [] → PainterStands b h size kept ps → PainterStands b g size kept ps
painter_other b h g x size kept ps n i k =
    step_stands b h g x size kept ps i (other_by (sights_of b.state h) (run b.state h) x.actor x.event size kept ps n (of_stands b h size kept ps k))

-- ---- a Paint

-- what the painter is before it paints: made new, where a Resize came or nothing was painted
abbrev pub readied : Bool → State → Kept → Kept
readied true s kept = unpainted s.buffers.w s.buffers.h
readied false s kept = kept

pub prints_few : (kept : Kept) (v : View) (s : State) (bytes : List ℕ) (u : Terminal) (after : Kept) (fresh : Bool) (l : Option View)
    → is_fresh s ≡ fresh → (is_fresh s ≡ false → KeepsView s kept) → Reached s kept u l
    → ((t : Terminal) → Allows (readied fresh s kept) t → Paints (readied fresh s kept) after v bytes t) → Painted l v bytes u × Allows after (play u bytes)
prints_few kept v s bytes u after true l f keeps r paints =
    let q = r.fresh f in
    let a : Allows (unpainted s.buffers.w s.buffers.h) u = record { terminal = q.0; agrees = λ x. absurd (cc) } in
    let p = paints u a in
    let P : Option View → Type 0 = λ o. Painted o v bytes u in
    (subst P (sym q.1) (record { shows = p.shows; few = p.first refl; new_rows = tt }), p.allows)
prints_few kept v s bytes u after false l f keeps r paints =
    let q = r.allowed f in
    let k = keeps f in
    let p = paints u q.0 in
    let P : Option View → Type 0 = λ o. Painted o v bytes u in
    let D : List Glyph → Type 0 = λ c. printed u bytes ≤ v.size.w * differing v.size.w v.size.h v.rows c in
    let L : List Glyph → Type 0 = λ c. (j : ℕ) → 0 < j → j ≤ v.size.h → IsLifted v.size.w v.size.h j v.rows c → printed u bytes ≤ v.size.w * j in (
      subst P (sym (q.1 ∙ k.painted')) (record { shows = p.shows; few = subst D k.cells (p.few k.known); new_rows = subst L k.cells (p.lifted k.known) }),
      p.allows,
    )

pub fresh_off : (t : State) (v : View) → t.resized ≡ false → t.painted ≡ Some v → is_fresh t ≡ false
fresh_off t v r p = ap (λ (b : Bool). b || is_none t.painted) r ∙ ap (λ (o : Option View). is_none o) p

pub painted_stands : (ss : List Sight) (s t : State) (v : View) (size : Size) (kept after : Kept) (ps : List (List ℕ)) (bytes : List ℕ) (fresh : Bool)
    → is_fresh s ≡ fresh
    → t.resized ≡ false → t.painted ≡ Some v → t.buffers.w ≡ s.buffers.w → t.buffers.h ≡ s.buffers.h
    → ((x : Terminal) → Allows (readied fresh s kept) x → Paints (readied fresh s kept) after v bytes x) → IsShown after v → after.w ≡ s.buffers.w
    → after.h ≡ s.buffers.h
    → StandsOf ss s size kept ps → StandsOf (ss ++ sights.Paint v ∷ []) t size after (ps ++ bytes ∷ [])
painted_stands ss s t v size kept after ps bytes fresh f rt pt wt ht paints shown wide high k =
    let off = fresh_off t v rt pt in
    record {
      matched = matched_paint ss ps v bytes k.matched;
      each = λ x i. piece_paint Painted x None ss ps v bytes k.matched (k.each x i)
          (λ u l r. (prints_few kept v s bytes u after fresh l f k.keeps (k.reach x i u l r) paints).0);
      reach = λ x i u l r. let d = reach_paint x None ss ps v bytes u l k.matched r in
          let a = (prints_few kept v s bytes d.0 after fresh d.1 f k.keeps (k.reach x i d.0 d.1 d.2) paints).1 in
          record {
            fresh = λ y. absurd (let n = sym off ∙ y in cc);
            allowed = λ y. (let A : Terminal → Type 0 = λ z. Allows after z in subst A (sym d.3) a, d.4 ∙ sym pt);
          };
      keeps = λ y. record { old = v; painted' = pt; known = shown.known; cells = sym shown.cells; wide = wide ∙ sym wt; high = high ∙ sym ht };
    }

pub painter_paint : (b : Begun) (h g : List Entry) (v : View) (size : Size) (kept after : Kept) (ps : List (List ℕ)) (bytes : List ℕ) (fresh : Bool)
    → g ≡ h ++ entry actors.Painter events.Paint ∷ [] → is_fresh (run b.state h) ≡ fresh → v ≡ view_now (run b.state h)
    → ((x : Terminal) → Allows (readied fresh (run b.state h) kept) x → Paints (readied fresh (run b.state h) kept) after v bytes x) → IsShown after v
    → after.w ≡ (run b.state h).buffers.w → after.h ≡ (run b.state h).buffers.h
    → PainterStands b h size kept ps → PainterStands b g size after (ps ++ bytes ∷ [])
painter_paint b h g v size kept after ps bytes fresh i f e paints shown wide high k =
    let s = run b.state h in let m = step_moves s actors.Painter events.Paint in let z = step_keeps_size s actors.Painter events.Paint in
    let Q : View → Type 0 =
    λ w. StandsOf (sights_of b.state h ++ sights.Paint w ∷ []) ((step s actors.Painter events.Paint).after) size after (ps ++ bytes ∷ []) in
    step_stands b h g (entry actors.Painter events.Paint) size after (ps ++ bytes ∷ []) i (subst Q e
    (painted_stands (sights_of b.state h) s ((step s actors.Painter events.Paint).after) v size kept after ps bytes fresh f m.sizes
    (m.paints ∙ ap (λ (w : View). Some w) (sym e)) z.wide z.high paints shown wide high (of_stands b h size kept ps k)))

-- a Paint with no frame
pub none_each : (b : Begun) (h g : List Entry) (size : Size) (kept : Kept) (ps : List (List ℕ)) → g ≡ h ++ entry actors.Painter events.Paint ∷ []
    → PainterStands b h size kept ps → (t : Terminal) → IsTerminal size.w size.h t → EachPiece Painted t None (sights_of b.state g) ps
none_each b h g size kept ps i k t j =
    let x = entry actors.Painter events.Paint in
    let s = run b.state h in
    let P : List Entry → Type 0 = λ z. EachPiece Painted t None (sights_of b.state z) ps in
    let Q : List Sight → Type 0 = λ ss. EachPiece Painted t None ss ps in
    subst P (sym i) (subst Q (sym (sights-one b.state h x)) (piece_none Painted t None (sights_of b.state h) ps (view_now s) k.matched (k.each t j)))

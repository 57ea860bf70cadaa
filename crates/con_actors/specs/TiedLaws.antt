-- What the painter keeps is the view that was painted last, behind entries of others and behind a Paint.
use Rattle.std.proofs.Common.{◌≡◌, Bool, true, false, List, [], ◌∷◌, Option, Some, refl, sym, ap, ◌∙◌, subst}
use Rattle.std.specs.Prelude.{not, ◌||◌, is_none, option_map}
use Rattle.std.specs.List.{list_all}
use Rattle.std.proofs.lemmas.Bool.{and_parts}
use Rattle.con_units.specs.declared.view.View.{View}
use Rattle.con_paint.specs.Painter.{Kept, IsShown}
use Rattle.con_events.specs.declared.actor.Actor.{Actor}
use Rattle.con_events.specs.declared.actor.Actor.TheVariants as actors
use Rattle.con_events.specs.declared.entry.Entry.{Entry}
use Rattle.con_events.specs.declared.event.Event.{Event}
use Rattle.con_events.specs.declared.event.Event.TheVariants as events
use Rattle.con_events.specs.declared.reply.Reply.{Reply}
use Rattle.con_machine.specs.History.{run, is_legal}
use Rattle.con_machine.specs.Moves.{resizes_by, painted_by}
use Rattle.con_machine.specs.Words.Painting.{is_fresh}
use Rattle.con_laws.specs.PictureLaws.{step_moves, asked_is_due}
use Rattle.con_machine.specs.SizeLaws.{step_keeps_size}
use Rattle.con_machine.specs.Sizes.{width_by, height_by}
use Rattle.con_machine.specs.State.{State}
use Rattle.con_machine.specs.Step.{step, is_ready}
use Rattle.con_machine.specs.Turns.{moved, is_paint}
use Rattle.con_actors.specs.Words.Desk.{Enters, Ran, is_painter}
use Rattle.con_actors.specs.Painting.{IsTied, Pictures}
use Rattle.con_actors.specs.PaintCounts.{no_paint}

pub same_tied : (s t : State) (kept : Kept) → t.resized ≡ s.resized → t.painted ≡ s.painted → t.buffers.w ≡ s.buffers.w
    → t.buffers.h ≡ s.buffers.h → IsTied s kept → IsTied t kept
same_tied s t kept r p w h k =
    let f : is_fresh t ≡ is_fresh s = ap (λ (b : Bool). b || is_none t.painted) r ∙ ap (λ (o : Option View). s.resized || is_none o) p in
    record {
      known = λ e. k.known (sym f ∙ e);
      cells = λ e. ap (λ (o : Option View). option_map (λ v. v.rows) o) p ∙ k.cells (sym f ∙ e);
      wide = λ e. k.wide (sym f ∙ e) ∙ sym w;
      high = λ e. k.high (sym f ∙ e) ∙ sym h;
    }

pub fresh_tied : (t : State) (kept : Kept) → is_fresh t ≡ true → IsTied t kept
fresh_tied t kept f = record {
  known = λ e. absurd (let z = sym f ∙ e in cc);
  cells = λ e. absurd (let z = sym f ∙ e in cc);
  wide = λ e. absurd (let z = sym f ∙ e in cc);
  high = λ e. absurd (let z = sym f ∙ e in cc);
}

pub plain_tied : (s : State) (a : Actor) (e : Event) (kept : Kept) → resizes_by s.resized e ≡ s.resized → painted_by s e ≡ s.painted
    → width_by s.buffers.w e ≡ s.buffers.w → height_by s.buffers.h e ≡ s.buffers.h → IsTied s kept → IsTied (step s a e).after kept
plain_tied s a e kept r p w h k =
    let m = step_moves s a e in let z = step_keeps_size s a e in same_tied s ((step s a e).after) kept (m.sizes ∙ r) (m.paints ∙ p) (z.wide ∙ w) (z.high ∙ h) k

pub tied_step : (s : State) (a : Actor) (e : Event) (kept : Kept) → is_paint e ≡ false → IsTied s kept → IsTied (step s a e).after kept
tied_step s a (events.Call c) kept n k = plain_tied s a (events.Call c) kept refl refl refl refl k
tied_step s a (events.Begin w) kept n k = plain_tied s a (events.Begin w) kept refl refl refl refl k
tied_step s a events.Collect kept n k = plain_tied s a events.Collect kept refl refl refl refl k
tied_step s a events.TakeCtrl kept n k = plain_tied s a events.TakeCtrl kept refl refl refl refl k
tied_step s a (events.Exit status) kept n k = plain_tied s a (events.Exit status) kept refl refl refl refl k
tied_step s a (events.Feed bytes) kept n k = plain_tied s a (events.Feed bytes) kept refl refl refl refl k
tied_step s a events.Quiet kept n k = plain_tied s a events.Quiet kept refl refl refl refl k
tied_step s a (events.Resize z) kept n k =
    let t = (step s a (events.Resize z)).after in fresh_tied t kept (ap (λ (b : Bool). b || is_none t.painted) (step_moves s a (events.Resize z)).sizes)
tied_step s a events.Ask kept n k = plain_tied s a events.Ask kept refl refl refl refl k
tied_step s a events.Hangup kept n k = plain_tied s a events.Hangup kept refl refl refl refl k
tied_step s a events.Drained kept n k = plain_tied s a events.Drained kept refl refl refl refl k
tied_step s a events.Paint kept n k = absurd (cc)

pub no_painter : (a : Actor) → not (is_painter a) ≡ true → a ≡ actors.Painter → ⊥
no_painter (actors.Client p) n e = cc
no_painter actors.Terminal n e = cc
no_painter actors.Painter n e = cc

pub tied_run : (s : State) (r : List Entry) (kept : Kept) → is_legal s r ≡ true → list_all (λ x. not (is_painter x.actor)) r ≡ true → IsTied s kept
    → IsTied (run s r) kept
tied_run s [] kept l o k = k
tied_run s (x ∷ xs) kept l o k =
    let p = and_parts (is_ready s x.actor x.event) (is_legal (moved s x) xs) l in
    let q = and_parts (not (is_painter x.actor)) (list_all (λ z. not (is_painter z.actor)) xs) o in
    tied_run (moved s x) xs kept p.1 q.1 (tied_step s x.actor x.event kept (no_paint s x.actor x.event p.0 (no_painter x.actor q.0)) k)

-- behind entries of others
pub tied_ran : (s t : State) (h g : List Entry) (kept : Kept) → Ran s t h g → IsTied s kept → IsTied t kept
tied_ran s t h g kept r k = let P : State → Type 0 = λ z. IsTied z kept in subst P (sym r.state) (tied_run s r.entries kept r.legal r.others k)

-- behind a Paint, of whatever keeps the view's cells
pub tied_cells : (s t : State) (h g : List Entry) (rs qs : List Reply) (v : View) (fresh : Bool) (kept : Kept)
    → Enters s t h g rs qs actors.Painter events.Paint → Pictures v fresh s → kept.known ≡ true → v.rows ≡ kept.cells
    → (kept.w ≡ v.size.w) × (kept.h ≡ v.size.h) → IsTied t kept
tied_cells s t h g rs qs v fresh kept n p known cells sizes =
    let u = (step s actors.Painter events.Paint).after in
    let m = step_moves s actors.Painter events.Paint in let z = step_keeps_size s actors.Painter events.Paint in
    let P : State → Type 0 = λ y. IsTied y kept in
    subst P (sym n.state) (record {
      known = λ e. known;
      cells = λ e. ap (λ (o : Option View). option_map (λ x. x.rows) o) (m.paints ∙ ap (λ (x : View). Some x) (sym p.view)) ∙ ap (λ (c : _). Some c) cells;
      wide = λ e. sizes.0 ∙ (p.wide ∙ sym z.wide);
      high = λ e. sizes.1 ∙ (p.high ∙ sym z.high);
    })

-- of the painter
pub tied_paint : (s t : State) (h g : List Entry) (rs qs : List Reply) (v : View) (fresh : Bool) (kept : Kept)
    → Enters s t h g rs qs actors.Painter events.Paint → Pictures v fresh s → IsShown kept v → (kept.w ≡ v.size.w) × (kept.h ≡ v.size.h) → IsTied t kept
tied_paint s t h g rs qs v fresh kept n p shown sizes = tied_cells s t h g rs qs v fresh kept n p shown.known shown.cells sizes

-- ---- no Ask is out

pub served_paint : (s t : State) (h g : List Entry) (rs qs : List Reply) → Enters s t h g rs qs actors.Painter events.Paint → t.asked ≡ false
served_paint s t h g rs qs n = ap (λ (z : State). z.asked) n.state ∙ (step_moves s actors.Painter events.Paint).asks

pub not_asked : (s : State) (a : Bool) → s.asked ≡ a → is_ready s actors.Painter events.Paint ≡ false → a ≡ false
not_asked s false e r = refl
not_asked s true e r = absurd (let z = sym (asked_is_due s e) ∙ r in cc)

pub served_still : (s : State) → is_ready s actors.Painter events.Paint ≡ false → s.asked ≡ false
served_still s r = not_asked s s.asked refl r

-- What a frame needs of the picture, and when the painter acts.
use Rattle.std.proofs.Common.{◌≡◌, ℕ, ◌<◌, Bool, true, false, List, length, Option, Some, None, refl, sym, ap, ◌∙◌, subst}
use Rattle.std.specs.Prelude.{not, ◌&&◌, option_map, slice_index_or, if◌then◌else◌}
use Rattle.std.proofs.lemmas.List.{get_or_default}
use Rattle.con_units.specs.Glyph.{Glyph}
use Rattle.con_units.specs.Words.Limits.{IsWindow}
use Rattle.con_units.specs.View.{row_of}
use Rattle.con_units.specs.Words.View.{IsWhole}
use Rattle.con_units.specs.declared.view.View.{View}
use Rattle.con_paint.specs.Painter.{Kept}
use Rattle.con_events.specs.declared.actor.Actor.TheVariants as actors
use Rattle.con_events.specs.declared.entry.Entry.{Entry}
use Rattle.con_events.specs.declared.event.Event.TheVariants as events
use Rattle.con_machine.specs.History.{run}
use Rattle.con_machine.specs.Marks.{AreMarks, IsSameRow}
use Rattle.con_machine.specs.Painting.{view_now}
use Rattle.con_machine.specs.Words.Painting.{is_fresh}
use Rattle.con_laws.specs.Rounds.{Begun}
use Rattle.con_laws.specs.RoundWords.{IsTurn, is_failed}
use Rattle.con_machine.specs.State.{State}
use Rattle.con_machine.specs.Step.{is_ready}
use Rattle.con_machine.specs.Turns.{paints}
use Rattle.con_actors.specs.Painting.{IsTied, Pictures}
use Rattle.con_actors.specs.Words.Sender.{FailsBy}
use Rattle.con_actors.specs.SenderLaws.{fails_true, fails_false}

-- ---- a picture for the painter

pub row_last : (o : Option View) (v : View) (y : ℕ) (cells : List Glyph) → option_map (λ x. x.rows) o ≡ Some cells → IsSameRow o v y
    → row_of v.size.w v.rows y ≡ row_of v.size.w cells y
row_last None v y cells e k = absurd k
row_last (Some last) v y cells e k = k ∙ ap (λ (c : List Glyph). row_of v.size.w c y) (let f : last.rows ≡ cells = cc in f)

pub tied_size : (s : State) (kept : Kept) (v : View) (fresh : Bool) → IsTied s kept → Pictures v fresh s → fresh ≡ false
    → (v.size.w ≡ kept.w) × (v.size.h ≡ kept.h)
tied_size s kept v fresh k p f = let off = sym p.fresh' ∙ f in (p.wide ∙ sym (k.wide off), p.high ∙ sym (k.high off))

pub tied_count : (s : State) (v : View) (marks : List Bool) (fresh : Bool) → Pictures v fresh s → AreMarks s marks → length marks ≡ v.size.h
tied_count s v marks fresh p m = m.count ∙ ap (λ (x : View). x.size.h) (sym p.view)

pub tied_rows : (s : State) (kept : Kept) (v : View) (marks : List Bool) (fresh : Bool) → IsTied s kept → Pictures v fresh s → AreMarks s marks → fresh ≡ false
    → (y : ℕ) → y < kept.h → slice_index_or marks y false ≡ false → row_of kept.w v.rows y ≡ row_of kept.w kept.cells y
tied_rows s kept v marks fresh k p m f y l n =
    let off = sym p.fresh' ∙ f in
    let z = tied_size s kept v fresh k p f in
    let A : ℕ → Type 0 = λ x. y < x in
    let inside : y < length marks = subst A (sym (tied_count s v marks fresh p m ∙ z.1)) l in
    let shown : y < (view_now s).size.h = subst A (m.count) inside in
    let unmarked : slice_index_or marks y true ≡ false = get_or_default marks y true false inside ∙ n in
    let B : View → Type 0 = λ x. IsSameRow s.painted x y in
    let same : IsSameRow s.painted v y = subst B (sym p.view) (m.same y shown unmarked) in
    let C : ℕ → Type 0 = λ x. row_of x v.rows y ≡ row_of x kept.cells y in
    subst C z.0 (row_last s.painted v y kept.cells (k.cells off) same)

-- ---- when the painter acts

acts_by : (f r : Bool) → f ≡ false → r ≡ true → Some events.Paint ≡ (if not f && r then Some events.Paint else None)
acts_by f r e i = rw (e, i) refl

rests_failed : (f r : Bool) → f ≡ true → None ≡ (if not f && r then Some events.Paint else None)
rests_failed f r e = rw e refl

rests_by : (f r : Bool) → r ≡ false → None ≡ (if not f && r then Some events.Paint else None)
rests_by true r e = refl
rests_by false r e = rw e refl

pub paints_now : (b : Begun) (s : State) (h : List Entry) (failed : Bool) → s ≡ run b.state h → FailsBy failed b.failed (paints h) → failed ≡ false
    → is_ready s actors.Painter events.Paint ≡ true → IsTurn b h actors.Painter (Some events.Paint)
paints_now b s h failed e k f r = let P : State → Type 0 = λ z. is_ready z actors.Painter events.Paint ≡ true in
    acts_by (is_failed b.failed (paints h)) (is_ready (run b.state h) actors.Painter events.Paint) (fails_false failed b.failed (paints h) f k) (subst P e r)

pub failed_rests : (b : Begun) (h : List Entry) (failed : Bool) → FailsBy failed b.failed (paints h) → failed ≡ true → IsTurn b h actors.Painter None
failed_rests b h failed k f =
    rests_failed (is_failed b.failed (paints h)) (is_ready (run b.state h) actors.Painter events.Paint) (fails_true failed b.failed (paints h) f k)

pub unready_rests : (b : Begun) (s : State) (h : List Entry) → s ≡ run b.state h → is_ready s actors.Painter events.Paint ≡ false
    → IsTurn b h actors.Painter None
unready_rests b s h e r = let P : State → Type 0 = λ z. is_ready z actors.Painter events.Paint ≡ false in
    rests_by (is_failed b.failed (paints h)) (is_ready (run b.state h) actors.Painter events.Paint) (subst P e r)

-- ---- a picture is of the console

pub picture_of : (s t : State) (v : View) (fresh : Bool) → t ≡ s → v ≡ view_now t → fresh ≡ is_fresh t → (view_now t).size.w ≡ t.buffers.w
    → (view_now t).size.h ≡ t.buffers.h → Pictures v fresh s
picture_of s t v fresh e p f w h = let P : State → Type 0 = λ z. Pictures v fresh z in
    subst P e (record { view = p; fresh' = f; wide = ap (λ (x : View). x.size.w) p ∙ w; high = ap (λ (x : View). x.size.h) p ∙ h })

pub whole_of : (t : State) (v : View) → v ≡ view_now t → IsWhole (view_now t) → IsWhole v
whole_of t v e k = let P : View → Type 0 = λ z. IsWhole z in subst P (sym e) k

pub window_of : (t : State) (v : View) → v ≡ view_now t → (view_now t).size.w ≡ t.buffers.w → (view_now t).size.h ≡ t.buffers.h
    → IsWindow t.buffers.w t.buffers.h → IsWindow v.size.w v.size.h
window_of t v e w h k =
    let P : ℕ → Type 0 = λ x. IsWindow x t.buffers.h in let Q : ℕ → Type 0 = λ x. IsWindow v.size.w x in
    subst Q (sym (ap (λ (x : View). x.size.h) e ∙ h)) (subst P (sym (ap (λ (x : View). x.size.w) e ∙ w)) k)

pub marks_of : (s t : State) (marks : List Bool) → t ≡ s → AreMarks t marks → AreMarks s marks
marks_of s t marks e k = let P : State → Type 0 = λ z. AreMarks z marks in subst P e k

-- What was written behind one more Paint.
use Rattle.std.proofs.Common.{◌≡◌, ℕ, ◌+◌, ◌≤◌, Bool, true, false, List, [], ◌∷◌, ◌++◌, length, take, Option, append-nil}
use Rattle.std.proofs.Common.{refl, sym, ap, ◌∙◌, subst, append_assoc, arith, length-append, zero-add, inl, inr}
use Rattle.std.specs.Prelude.{if◌then◌else◌}
use Rattle.std.proofs.Math.Seq.{take-length, take-append-add}
use Rattle.con_units.specs.declared.place.Size.{Size}
use Rattle.con_units.specs.declared.view.View.{View}
use Rattle.con_units.specs.declared.view.Sight.{Sight}
use Rattle.con_units.specs.declared.view.Sight.TheVariants as sights
use Rattle.con_outside.specs.Outside.{then_written, WroteFront}
use Rattle.con_outside.specs.Laws.{then_written-more}
use Rattle.con_term.specs.Terminal.{Terminal}
use Rattle.con_paint.specs.Painter.{Kept, Allows, Paints, IsShown, unpainted}
use Rattle.con_events.specs.declared.actor.Actor.TheVariants as actors
use Rattle.con_events.specs.declared.entry.Entry.{Entry}
use Rattle.con_events.specs.declared.event.Event.{Event}
use Rattle.con_events.specs.declared.event.Event.TheVariants as events
use Rattle.con_events.specs.declared.reply.Reply.{Reply}
use Rattle.con_machine.specs.History.{run}
use Rattle.con_machine.specs.Painting.{view_now}
use Rattle.con_machine.specs.Words.Painting.{is_fresh}
use Rattle.con_machine.specs.HistoryLaws.{paints-append}
use Rattle.con_laws.specs.Rounds.{Begun}
use Rattle.con_machine.specs.Sights.{sights_of, sights_at}
use Rattle.con_machine.specs.Turns.{moved, paints, is_paint}
use Rattle.con_machine.specs.State.{State}
use Rattle.con_actors.specs.Words.Desk.{Rests, entry}
use Rattle.con_actors.specs.Painting.{Written, PainterStands, CanvasIs, CanvasEnds, Pictures}
use Rattle.con_actors.specs.Words.Runs.{Matched, joined, ends_from}
use Rattle.con_actors.specs.PaintingLaws.{painter_paint, none_each, readied}

pub joined_more : (ps : List (List ℕ)) (p : List ℕ) → joined (ps ++ p ∷ []) ≡ joined ps ++ p
joined_more [] p = append-nil p
joined_more (q ∷ qs) p = ap (λ (x : List ℕ). q ++ x) (joined_more qs p) ∙ sym (append_assoc q (joined qs) p)

pub ends_more : (n : ℕ) (ps : List (List ℕ)) (p : List ℕ) → ends_from n (ps ++ p ∷ []) ≡ ends_from n ps ++ (n + length (joined ps) + length p) ∷ []
ends_more n [] p = ap (λ (m : ℕ). (m + length p) ∷ []) (let e : n ≡ n + 0 = omega arith in e)
ends_more n (q ∷ qs) p = ap (λ (x : List ℕ). (n + length q) ∷ x) (ends_more (n + length q) qs p
    ∙ ap (λ (m : ℕ). ends_from (n + length q) qs ++ (m + length p) ∷ [])
    (let e : n + length q + length (joined qs) ≡ n + length (q ++ joined qs) = omega (arith, length-append q (joined qs)) in e))

pub take_all : (xs : List ℕ) → take (length xs) xs ≡ xs
take_all xs = take-length xs

pub take_past : (xs ys : List ℕ) (n : ℕ) → take (length xs + n) (xs ++ ys) ≡ xs ++ take n ys
take_past xs ys n = take-append-add xs ys n

pub written_more : (before now later : Option (List ℕ)) (ps : List (List ℕ)) (p : List ℕ) (n : ℕ) (failed : Bool) → Written before now ps false
    → n ≤ length p → later ≡ then_written now (take n p) → (failed ≡ false → n ≡ length p) → Written before later (ps ++ p ∷ []) failed
written_more before now later ps p n failed w l e f =
    let c : w.count ≡ length (joined ps) = w.whole refl in
    let whole : now ≡ then_written before (joined ps) =
    w.front ∙ ap (λ (x : List ℕ). then_written before x) (ap (λ (m : ℕ). take m (joined ps)) c ∙ take_all (joined ps)) in
    let j = joined_more ps p in
    record {
      count = length (joined ps) + n;
      most = omega (arith, ap (λ (x : List ℕ). length x) j, length-append (joined ps) p);
      front = then_written-more (joined ps) (take n p) before now later whole e
          ∙ ap (λ (x : List ℕ). then_written before x) (sym (take_past (joined ps) p n) ∙ ap (λ (x : List ℕ). take (length (joined ps) + n) x) (sym j));
      whole = λ x. ap (λ (m : ℕ). length (joined ps) + m) (f x) ∙ (sym (length-append (joined ps) p) ∙ ap (λ (x' : List ℕ). length x') (sym j));
    }

pub readied_is : (s : State) (v : View) (kept : Kept) (fresh : Bool) → v.size.w ≡ s.buffers.w → v.size.h ≡ s.buffers.h
    → (if fresh then unpainted v.size.w v.size.h else kept) ≡ readied fresh s kept
readied_is s v kept true w h = ap (λ (x : ℕ). unpainted x v.size.h) w ∙ ap (λ (x : ℕ). unpainted s.buffers.w x) h
readied_is s v kept false w h = refl

pub canvas_paint : (b : Begun) (size : Size) (before now later : Option (List ℕ)) (kept after : Kept) (ps : List (List ℕ)) (ends : List ℕ)
    (end upto : ℕ) (v : View) (fresh failed : Bool) (bytes : List ℕ) (n : ℕ) (s : State) (h g : List Entry)
    → s ≡ run b.state h → g ≡ h ++ entry actors.Painter events.Paint ∷ [] → Pictures v fresh s
    → ((t : Terminal) → Allows (if fresh then unpainted v.size.w v.size.h else kept) t
    → Paints (if fresh then unpainted v.size.w v.size.h else kept) after v bytes t) → IsShown after v → ((after.w ≡ v.size.w) × (after.h ≡ v.size.h))
    → n ≤ length bytes → later ≡ then_written now (take n bytes) → (failed ≡ false → n ≡ length bytes) → upto ≡ end + length bytes
    → CanvasIs b h size kept ps ends end before now false → CanvasIs b g size after (ps ++ bytes ∷ []) (ends ++ upto ∷ []) upto before later failed
canvas_paint b size before now later kept after ps ends end upto v fresh failed bytes n s h g i e tells paints shown sizes l w f u k =
    let r = run b.state h in
    let v' : v ≡ view_now r = tells.view ∙ ap (λ (z : State). view_now z) i in
    let f' : is_fresh r ≡ fresh = ap (λ (z : State). is_fresh z) (sym i) ∙ sym tells.fresh' in
    let wide : v.size.w ≡ r.buffers.w = tells.wide ∙ ap (λ (z : State). z.buffers.w) i in
    let high : v.size.h ≡ r.buffers.h = tells.high ∙ ap (λ (z : State). z.buffers.h) i in
    let P : Kept → Type 0 = λ z. (t : Terminal) → Allows z t → Paints z after v bytes t in
    let paints' = subst P (readied_is r v kept fresh wide high) paints in
    let j = joined_more ps bytes in
    let m : upto ≡ length (joined (ps ++ bytes ∷ [])) =
    u ∙ (ap (λ (z : ℕ). z + length bytes) k.end' ∙ (sym (length-append (joined ps) bytes) ∙ ap (λ (x : List ℕ). length x) (sym j))) in
    record {
      stands = painter_paint b h g v size kept after ps bytes fresh e f' v' paints' shown (sizes.0 ∙ wide) (sizes.1 ∙ high) k.stands;
      written = written_more before now later ps bytes n failed k.written l w f;
      ends' = ap (λ (x : List ℕ). x ++ upto ∷ []) k.ends' ∙ (ap (λ (z : ℕ). ends_from 0 ps ++ z ∷ [])
          (let q : upto ≡ 0 + length (joined ps) + length bytes = omega (arith, u, k.end') in q) ∙ sym (ends_more 0 ps bytes));
      end' = m;
    }

-- a piece for each Paint
abbrev pub pictures : List Sight → ℕ
pictures [] = 0
pictures (sights.Resize z ∷ ss) = pictures ss
pictures (sights.Paint v ∷ ss) = 1 + pictures ss

pub matched_count : (ss : List Sight) (ps : List (List ℕ)) → Matched ss ps → length ps ≡ pictures ss
matched_count [] [] m = refl
matched_count [] (q ∷ qs) m = absurd m
matched_count (sights.Resize z ∷ ss) ps m = matched_count ss ps m
matched_count (sights.Paint v ∷ ss) [] m = absurd m
matched_count (sights.Paint v ∷ ss) (q ∷ qs) m = let e = matched_count ss qs m in omega arith

pub one_sight : (s : State) (e : Event) (ss : List Sight) → pictures (sights_at s e ++ ss) ≡ (if is_paint e then 1 else 0) + pictures ss
one_sight s (events.Call c) ss = sym (zero-add (pictures ss))
one_sight s (events.Begin w) ss = sym (zero-add (pictures ss))
one_sight s events.Collect ss = sym (zero-add (pictures ss))
one_sight s events.TakeCtrl ss = sym (zero-add (pictures ss))
one_sight s (events.Exit status) ss = sym (zero-add (pictures ss))
one_sight s (events.Feed bytes) ss = sym (zero-add (pictures ss))
one_sight s events.Quiet ss = sym (zero-add (pictures ss))
one_sight s (events.Resize z) ss = sym (zero-add (pictures ss))
one_sight s events.Ask ss = sym (zero-add (pictures ss))
one_sight s events.Hangup ss = sym (zero-add (pictures ss))
one_sight s events.Drained ss = sym (zero-add (pictures ss))
one_sight s events.Paint ss = refl

pub pictures_are : (s : State) (h : List Entry) → pictures (sights_of s h) ≡ paints h
pictures_are s [] = refl
pictures_are s (x ∷ xs) = one_sight s x.event (sights_of (moved s x) xs) ∙ ap (λ (n : ℕ). (if is_paint x.event then 1 else 0) + n) (pictures_are (moved s x) xs)

pub painted_count : (b : Begun) (h : List Entry) (size : Size) (kept : Kept) (ps : List (List ℕ)) → PainterStands b h size kept ps → length ps ≡ paints h
painted_count b h size kept ps k = matched_count (sights_of b.state h) ps k.matched ∙ pictures_are b.state h

-- its end
pub canvas_ends : (b : Begun) (h : List Entry) (size : Size) (kept : Kept) (ps : List (List ℕ)) (ends : List ℕ) (end : ℕ) (before now : Option (List ℕ))
    (failed : Bool) → CanvasIs b h size kept ps ends end before now failed → CanvasEnds b h size ends before now
canvas_ends b h size kept ps ends end before now failed k =
    record { pieces = ps; each = k.stands.each; ends' = k.ends'; count = inl (painted_count b h size kept ps k.stands); failed = failed; written = k.written }

-- a Paint without a frame ends it
pub canvas_none : (b : Begun) (h g : List Entry) (size : Size) (kept : Kept) (ps : List (List ℕ)) (ends : List ℕ) (end : ℕ) (before now : Option (List ℕ))
    (failed : Bool) → g ≡ h ++ entry actors.Painter events.Paint ∷ [] → CanvasIs b h size kept ps ends end before now failed
    → CanvasEnds b g size ends before now
canvas_none b h g size kept ps ends end before now failed e k = record {
  pieces = ps;
  each = none_each b h g size kept ps e k.stands;
  ends' = k.ends';
  count = inr (ap (λ (n : ℕ). n + 1) (painted_count b h size kept ps k.stands)
      ∙ sym (ap paints e ∙ paints-append h (entry actors.Painter events.Paint ∷ [])));
  failed = failed;
  written = k.written;
}

pub was_fine : (b : Begun) (h : List Entry) (size : Size) (kept : Kept) (ps : List (List ℕ)) (ends : List ℕ) (end : ℕ) (before now : Option (List ℕ))
    (failed : Bool) → failed ≡ false → CanvasIs b h size kept ps ends end before now failed → CanvasIs b h size kept ps ends end before now false
was_fine b h size kept ps ends end before now failed e k = let P : Bool → Type 0 = λ x. CanvasIs b h size kept ps ends end before now x in subst P e k

-- a frame that was taken whole
pub canvas_ok : (b : Begun) (size : Size) (before now later : Option (List ℕ)) (kept after : Kept) (ps : List (List ℕ)) (ends : List ℕ) (end upto : ℕ)
    (v : View) (fresh was : Bool) (bytes slice more : List ℕ) (s : State) (h g : List Entry)
    → was ≡ false → s ≡ run b.state h → g ≡ h ++ entry actors.Painter events.Paint ∷ [] → Pictures v fresh s
    → ((t : Terminal) → Allows (if fresh then unpainted v.size.w v.size.h else kept) t
    → Paints (if fresh then unpainted v.size.w v.size.h else kept) after v bytes t) → IsShown after v → ((after.w ≡ v.size.w) × (after.h ≡ v.size.h))
    → slice ≡ bytes → later ≡ then_written now slice → upto ≡ end + length bytes
    → CanvasIs b h size kept ps ends end before now was → more ≡ ends ++ upto ∷ [] → CanvasIs b g size after (ps ++ bytes ∷ []) more upto before later was
canvas_ok b size before now later kept after ps ends end upto v fresh was bytes slice more s h g w i e tells paints shown sizes sl l u k em =
    let E : List ℕ → Type 0 = λ x. CanvasIs b g size after (ps ++ bytes ∷ []) x upto before later was in subst E (sym em) (
    canvas_paint b size before now later kept after ps ends end upto v fresh was bytes (length bytes) s h g i e tells paints shown sizes (omega arith)
    (l ∙ ap (λ (x : List ℕ). then_written now x) (sl ∙ sym (take-length bytes))) (λ x. refl) u (was_fine b h size kept ps ends end before now was w k))

-- one that was not
pub canvas_failed : (b : Begun) (size : Size) (before now later : Option (List ℕ)) (kept after : Kept) (ps : List (List ℕ)) (ends : List ℕ)
    (end upto : ℕ) (v : View) (fresh was : Bool) (bytes slice more : List ℕ) (s : State) (h g : List Entry)
    → was ≡ false → s ≡ run b.state h → g ≡ h ++ entry actors.Painter events.Paint ∷ [] → Pictures v fresh s
    → ((t : Terminal) → Allows (if fresh then unpainted v.size.w v.size.h else kept) t
    → Paints (if fresh then unpainted v.size.w v.size.h else kept) after v bytes t) → IsShown after v → ((after.w ≡ v.size.w) × (after.h ≡ v.size.h))
    → slice ≡ bytes → WroteFront slice now later → upto ≡ end + length bytes
    → CanvasIs b h size kept ps ends end before now was → more ≡ ends ++ upto ∷ [] → CanvasIs b g size after (ps ++ bytes ∷ []) more upto before later true
canvas_failed b size before now later kept after ps ends end upto v fresh was bytes slice more s h g w i e tells paints shown sizes sl (n, m, l) u k em =
    let E : List ℕ → Type 0 = λ x. CanvasIs b g size after (ps ++ bytes ∷ []) x upto before later true in subst E (sym em) (
    let P : List ℕ → Type 0 = λ x. n ≤ length x in
    canvas_paint b size before now later kept after ps ends end upto v fresh true bytes n s h g i e tells paints shown sizes (subst P sl m)
    (l ∙ ap (λ (x : List ℕ). then_written now (take n x)) sl) (λ x. absurd (cc)) u (was_fine b h size kept ps ends end before now was w k))

-- its end, where nothing was entered
pub canvas_rests : (b : Begun) (s t : State) (h g : List Entry) (rs qs : List Reply) (size : Size) (kept : Kept) (ps : List (List ℕ)) (ends : List ℕ)
    (end : ℕ) (before now : Option (List ℕ)) (failed : Bool) → Rests s t h g rs qs → CanvasIs b h size kept ps ends end before now failed
    → CanvasEnds b g size ends before now
canvas_rests b s t h g rs qs size kept ps ends end before now failed r k = let P : List Entry → Type 0 = λ z. CanvasEnds b z size ends before now in
    subst P (sym r.entries) (canvas_ends b h size kept ps ends end before now failed k)

pub ends_as : (b : Begun) (h : List Entry) (size : Size) (es old : List ℕ) (before now : Option (List ℕ))
    → es ≡ old → CanvasEnds b h size old before now → CanvasEnds b h size es before now
ends_as b h size es old before now e k = let P : List ℕ → Type 0 = λ z. CanvasEnds b h size z before now in subst P (sym e) k

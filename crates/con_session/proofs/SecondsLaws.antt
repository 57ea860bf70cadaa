-- What a second terminal shows behind one more entry.
use Rattle.std.proofs.Common.{◌≡◌, ℕ, ◌+◌, Bool, true, false, List, [], ◌∷◌, ◌++◌, length, Some, refl, sym, ap, ◌∙◌, append_assoc, arith}
use Rattle.std.proofs.Common.{length-append, append-nil}
use Rattle.std.specs.Prelude.{drop, slice_get, if◌then◌else◌}
use Rattle.con_units.specs.declared.view.Sight.{Sight}
use Rattle.con_link.specs.declared.mirror.MirrorFrame.{MirrorFrame}
use Rattle.con_events.specs.declared.entry.Entry.{Entry}
use Rattle.con_events.specs.declared.event.Event.{Event}
use Rattle.con_events.specs.declared.event.Event.TheVariants as events
use Rattle.con_machine.specs.Words.Along.{after}
use Rattle.con_machine.specs.State.{State}
use Rattle.con_machine.specs.History.{run}
use Rattle.con_machine.specs.Turns.{moved, is_paint, paints}
use Rattle.con_actors.specs.Watched.{Watch, watched, watched_at, seconds_at, seconds_of, begun_at}
use Rattle.con_actors.specs.Watched.{begins_by, painted_at, attached_by, flag_at, flags_of, picked, Stays}
use Rattle.con_link.specs.Words.Mirrored.{as_plain}
use Rattle.con_link.specs.declared.mirror.MirrorFrame.TheVariants.{Plain, Attach, Detach}
use Rattle.con_units.specs.declared.view.Frame.TheVariants as frames
use Rattle.con_machine.specs.Follows.{sent_by}
use Rattle.con_actors.specs.Watched.{end_of}

seconds-append : (w : Watch) (s : State) (h g : List Entry) → seconds_of w s (h ++ g) ≡ seconds_of w s h ++ seconds_of (after watched w h) (run s h) g
seconds-append w s [] g = refl
seconds-append w s (x ∷ xs) g =
    ap (λ (ss : List Sight). seconds_at w s x ++ ss) (seconds-append (watched w x) (moved s x) xs g)
    ∙ sym (append_assoc (seconds_at w s x) (seconds_of (watched w x) (moved s x) xs) (seconds_of (after watched (watched w x) xs) (run (moved s x) xs) g))

pub seconds-one : (w : Watch) (s : State) (h : List Entry) (x : Entry)
    → seconds_of w s (h ++ x ∷ []) ≡ seconds_of w s h ++ seconds_at (after watched w h) (run s h) x
seconds-one w s h x =
    seconds-append w s h (x ∷ []) ∙ ap (λ (ss : List Sight). seconds_of w s h ++ ss) (append-nil (seconds_at (after watched w h) (run s h) x))

flags-append : (w : Watch) (h g : List Entry) → flags_of w (h ++ g) ≡ flags_of w h ++ flags_of (after watched w h) g
flags-append w [] g = refl
flags-append w (x ∷ xs) g =
    ap (λ (bs : List Bool). flag_at w x.event ++ bs) (flags-append (watched w x) xs g)
    ∙ sym (append_assoc (flag_at w x.event) (flags_of (watched w x) xs) (flags_of (after watched (watched w x) xs) g))

pub flags-one : (w : Watch) (h : List Entry) (x : Entry) → flags_of w (h ++ x ∷ []) ≡ flags_of w h ++ flag_at (after watched w h) x.event
flags-one w h x = flags-append w h (x ∷ []) ∙ ap (λ (bs : List Bool). flags_of w h ++ bs) (append-nil (flag_at (after watched w h) x.event))

pub watched-one : (w : Watch) (h : List Entry) (x : Entry) → after watched w (h ++ x ∷ []) ≡ watched (after watched w h) x
watched-one w [] x = refl
watched-one w (y ∷ ys) x = watched-one (watched w y) ys x

-- ---- ends

-- one more Paint that is mirrored
pub picked-more : (bs : List Bool) (es : List ℕ) (e : ℕ) → length bs ≡ length es → picked (bs ++ true ∷ []) (es ++ e ∷ []) ≡ picked bs es ++ e ∷ []
picked-more [] [] e n = refl
picked-more [] (x ∷ xs) e n = absurd (omega arith)
picked-more (b ∷ bs) [] e n = absurd (omega arith)
picked-more (true ∷ bs) (x ∷ xs) e n = ap (λ (ys : List ℕ). x ∷ ys) (picked-more bs xs e (omega arith))
picked-more (false ∷ bs) (x ∷ xs) e n = picked-more bs xs e (omega arith)

-- one more that is not
pub picked-same : (bs : List Bool) (es : List ℕ) (e : ℕ) → length bs ≡ length es → picked (bs ++ false ∷ []) (es ++ e ∷ []) ≡ picked bs es
picked-same [] [] e n = refl
picked-same [] (x ∷ xs) e n = absurd (omega arith)
picked-same (b ∷ bs) [] e n = absurd (omega arith)
picked-same (true ∷ bs) (x ∷ xs) e n = ap (λ (ys : List ℕ). x ∷ ys) (picked-same bs xs e (omega arith))
picked-same (false ∷ bs) (x ∷ xs) e n = picked-same bs xs e (omega arith)

-- one more that may have no end
pub picked-past : (bs : List Bool) (b : Bool) (es : List ℕ) → length bs ≡ length es → picked (bs ++ b ∷ []) es ≡ picked bs es
picked-past [] b [] n = refl
picked-past [] b (x ∷ xs) n = absurd (omega arith)
picked-past (c ∷ bs) b [] n = absurd (omega arith)
picked-past (true ∷ bs) b (x ∷ xs) n = ap (λ (ys : List ℕ). x ∷ ys) (picked-past bs b xs (omega arith))
picked-past (false ∷ bs) b (x ∷ xs) n = picked-past bs b xs (omega arith)

pub rests-more : (from : ℕ) (bs : List Bool) (es : List ℕ) (b : Bool) (e : ℕ) → length bs ≡ length es → Stays from bs es → (b ≡ false → e ≡ end_of from es)
    → Stays from (bs ++ b ∷ []) (es ++ e ∷ [])
rests-more from [] [] true e n r k = tt
rests-more from [] [] false e n r k = (k refl, tt)
rests-more from [] (x ∷ xs) b e n r k = absurd (omega arith)
rests-more from (c ∷ bs) [] b e n r k = absurd (omega arith)
rests-more from (true ∷ bs) (x ∷ xs) b e n r k = rests-more x bs xs b e (omega arith) r k
rests-more from (false ∷ bs) (x ∷ xs) b e n r k = (r.0, rests-more x bs xs b e (omega arith) r.1 k)

pub rests-past : (from : ℕ) (bs : List Bool) (b : Bool) (es : List ℕ) → length bs ≡ length es → Stays from bs es → Stays from (bs ++ b ∷ []) es
rests-past from [] b [] n r = go b
  where
    go : (c : Bool) → Stays from (c ∷ []) []
    go true = tt
    go false = tt
rests-past from [] b (x ∷ xs) n r = absurd (omega arith)
rests-past from (c ∷ bs) b [] n r = absurd (omega arith)
rests-past from (true ∷ bs) b (x ∷ xs) n r = rests-past x bs b xs (omega arith) r
rests-past from (false ∷ bs) b (x ∷ xs) n r = (r.0, rests-past x bs b xs (omega arith) r.1)

pub last-more : (from : ℕ) (es : List ℕ) (e : ℕ) → end_of from (es ++ e ∷ []) ≡ e
last-more from [] e = refl
last-more from (x ∷ xs) e = last-more x xs e

pub flags-count : (w : Watch) (h : List Entry) → length (flags_of w h) ≡ paints h
flags-count w [] = refl
flags-count w (x ∷ xs) = length-append (flag_at w x.event) (flags_of (watched w x) xs)
    ∙ (ap (λ (n : ℕ). length (flag_at w x.event) + n) (flags-count (watched w x) xs) ∙ ap (λ (n : ℕ). n + paints xs) (one w x.event))
  where
    one : (v : Watch) (e : Event) → length (flag_at v e) ≡ (if is_paint e then 1 else 0)
    one v events.Paint = refl
    one v (events.Call c) = refl
    one v (events.Begin b) = refl
    one v events.Collect = refl
    one v events.TakeCtrl = refl
    one v (events.Exit status) = refl
    one v (events.Feed bytes) = refl
    one v events.Quiet = refl
    one v (events.Resize z) = refl
    one v events.Ask = refl
    one v events.Hangup = refl
    one v events.Drained = refl

-- ---- what one entry does to the watch

pub no_flag : (w : Watch) (e : Event) → is_paint e ≡ false → flag_at w e ≡ []
no_flag w events.Paint n = absurd (cc)
no_flag w (events.Call c) n = refl
no_flag w (events.Begin b) n = refl
no_flag w events.Collect n = refl
no_flag w events.TakeCtrl n = refl
no_flag w (events.Exit status) n = refl
no_flag w (events.Feed bytes) n = refl
no_flag w events.Quiet n = refl
no_flag w (events.Resize z) n = refl
no_flag w events.Ask n = refl
no_flag w events.Hangup n = refl
no_flag w events.Drained n = refl

pub no_sight : (w : Watch) (s : State) (e : Event) → is_paint e ≡ false → painted_at w s e ≡ []
no_sight w s events.Paint n = absurd (cc)
no_sight w s (events.Call c) n = refl
no_sight w s (events.Begin b) n = refl
no_sight w s events.Collect n = refl
no_sight w s events.TakeCtrl n = refl
no_sight w s (events.Exit status) n = refl
no_sight w s (events.Feed bytes) n = refl
no_sight w s events.Quiet n = refl
no_sight w s (events.Resize z) n = refl
no_sight w s events.Ask n = refl
no_sight w s events.Hangup n = refl
no_sight w s events.Drained n = refl

pub frame_begins : (w : Watch) (f : MirrorFrame) (more : List MirrorFrame) → w.coming ≡ f ∷ more → begun_at w (sent_by (as_plain f)) ≡ begins_by (Some f)
frame_begins w (Plain (frames.Bytes bytes)) more e = refl
frame_begins w (Plain frames.Quiet) more e = refl
frame_begins w (Plain (frames.Resize z)) more e = refl
frame_begins w (Plain frames.Ask) more e = ap (λ (c : List MirrorFrame). begins_by (slice_get c 0)) e
frame_begins w (Plain frames.Hangup) more e = refl
frame_begins w (Plain frames.End) more e = refl
frame_begins w (Attach z) more e = ap (λ (c : List MirrorFrame). begins_by (slice_get c 0)) e
frame_begins w Detach more e = ap (λ (c : List MirrorFrame). begins_by (slice_get c 0)) e

pub frame_at : (w : Watch) (f : MirrorFrame) (more : List MirrorFrame) → w.coming ≡ f ∷ more
    → (watched_at w (sent_by (as_plain f))).at ≡ attached_by w.at (Some f)
frame_at w (Plain (frames.Bytes bytes)) more e = refl
frame_at w (Plain frames.Quiet) more e = refl
frame_at w (Plain (frames.Resize z)) more e = refl
frame_at w (Plain frames.Ask) more e = ap (λ (c : List MirrorFrame). attached_by w.at (slice_get c 0)) e
frame_at w (Plain frames.Hangup) more e = refl
frame_at w (Plain frames.End) more e = refl
frame_at w (Attach z) more e = ap (λ (c : List MirrorFrame). attached_by w.at (slice_get c 0)) e
frame_at w Detach more e = ap (λ (c : List MirrorFrame). attached_by w.at (slice_get c 0)) e

pub frame_coming : (w : Watch) (f : MirrorFrame) (more : List MirrorFrame) → w.coming ≡ f ∷ more → (watched_at w (sent_by (as_plain f))).coming ≡ more
frame_coming w (Plain (frames.Bytes bytes)) more e = ap (λ (c : List MirrorFrame). drop 1 c) e
frame_coming w (Plain frames.Quiet) more e = ap (λ (c : List MirrorFrame). drop 1 c) e
frame_coming w (Plain (frames.Resize z)) more e = ap (λ (c : List MirrorFrame). drop 1 c) e
frame_coming w (Plain frames.Ask) more e = ap (λ (c : List MirrorFrame). drop 1 c) e
frame_coming w (Plain frames.Hangup) more e = ap (λ (c : List MirrorFrame). drop 1 c) e
frame_coming w (Plain frames.End) more e = ap (λ (c : List MirrorFrame). drop 1 c) e
frame_coming w (Attach z) more e = ap (λ (c : List MirrorFrame). drop 1 c) e
frame_coming w Detach more e = ap (λ (c : List MirrorFrame). drop 1 c) e

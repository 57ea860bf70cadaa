-- What is promised of a second terminal's sights and ends is what the proofs walk.
use Rattle.std.proofs.Common.{◌≡◌, ℕ, Bool, true, false, List, [], ◌∷◌, ◌++◌, drop, map, Option, Some, None, refl, sym, ap, ◌∙◌}
use Rattle.std.specs.Prelude.{is_some, flat_map, slice_get, if◌then◌else◌}
use Rattle.std.specs.List.{zip, AllByRecursion}
use Rattle.con_units.specs.declared.place.Size.{Size}
use Rattle.con_units.specs.declared.view.Sight.{Sight}
use Rattle.con_link.specs.declared.mirror.MirrorFrame.{MirrorFrame}
use Rattle.con_link.specs.declared.mirror.MirrorFrame.TheVariants.{Plain, Attach, Detach}
use Rattle.con_events.specs.declared.entry.Entry.{Entry}
use Rattle.con_events.specs.declared.event.Event.{Event}
use Rattle.con_events.specs.declared.event.Event.TheVariants as events
use Rattle.con_machine.specs.State.{State}
use Rattle.con_machine.specs.Turns.{moved, is_terminal, is_paint}
use Rattle.con_actors.specs.Seconds.{attached_at, begun_by, mirrored_by, watching}
use Rattle.con_actors.specs.Seconds as now
use Rattle.con_actors.specs.Watched.{Watch, watched_at, begun_at, painted_at, seconds_of, flag_at, flags_of, picked, Stays}

abbrev from : List MirrorFrame → Option Size → Watch
from coming at = record { coming = coming; at = at }

attached_same : (at : Option Size) (e : Event) (coming : List MirrorFrame) → watched_at (from coming at) e ≡ from (drop 1 coming) (attached_at at e coming)
attached_same at events.Ask [] = refl
attached_same at events.Ask (Attach size ∷ more) = refl
attached_same at events.Ask (Detach ∷ more) = refl
attached_same at events.Ask (Plain frame ∷ more) = refl
attached_same at e coming = refl

begun_same : (at : Option Size) (e : Event) (coming : List MirrorFrame) → begun_at (from coming at) e ≡ begun_by e coming
begun_same at events.Ask [] = refl
begun_same at events.Ask (Attach size ∷ more) = refl
begun_same at events.Ask (Detach ∷ more) = refl
begun_same at events.Ask (Plain frame ∷ more) = refl
begun_same at e coming = refl

painted_same : (at : Option Size) (coming : List MirrorFrame) (s : State) (e : Event) → painted_at (from coming at) s e ≡ mirrored_by at s e
painted_same None coming s events.Paint = refl
painted_same (Some size) coming s events.Paint = refl
painted_same None coming s e = refl
painted_same (Some size) coming s e = refl

flag_same : (at : Option Size) (coming : List MirrorFrame) (e : Event) → flag_at (from coming at) e ≡ (if is_paint e then is_some at ∷ [] else [])
flag_same at coming events.Paint = refl
flag_same at coming e = refl

abbrev sights_at : Option Size × List MirrorFrame × State × Entry → List Sight
sights_at w = if is_terminal w.3.actor then begun_by w.3.event w.1 else mirrored_by w.0 w.2 w.3.event

abbrev flags_at : Option Size × List MirrorFrame × State × Entry → List Bool
flags_at w = if is_paint w.3.event then is_some w.0 ∷ [] else []

seconds_from : (h : List Entry) (at : Option Size) (coming : List MirrorFrame) (s : State) → seconds_of (from coming at) s h ≡ flat_map sights_at (watching at coming s h)
unfolding watching
seconds_from [] at coming s = refl
seconds_from (x ∷ xs) at coming s = by (is_terminal x.actor) (seconds_from xs)
  where
    by : (b : Bool) → ((a : Option Size) (fs : List MirrorFrame) (t : State) → seconds_of (from fs a) t xs ≡ flat_map sights_at (watching a fs t xs))
        → (if b then begun_at (from coming at) x.event else painted_at (from coming at) s x.event)
        ++ seconds_of (if b then watched_at (from coming at) x.event else from coming at) (moved s x) xs
        ≡ (if b then begun_by x.event coming else mirrored_by at s x.event)
        ++ flat_map sights_at (if b then watching (attached_at at x.event coming) (drop 1 coming) (moved s x) xs else watching at coming (moved s x) xs)
    by true rest =
        ap (λ (ss : List Sight). ss ++ seconds_of (watched_at (from coming at) x.event) (moved s x) xs) (begun_same at x.event coming)
        ∙ ap (λ (ss : List Sight). begun_by x.event coming ++ ss)
        (ap (λ (w : Watch). seconds_of w (moved s x) xs) (attached_same at x.event coming) ∙ rest (attached_at at x.event coming) (drop 1 coming) (moved s x))
    by false rest =
        ap (λ (ss : List Sight). ss ++ seconds_of (from coming at) (moved s x) xs) (painted_same at coming s x.event)
        ∙ ap (λ (ss : List Sight). mirrored_by at s x.event ++ ss) (rest at coming (moved s x))

flags_from : (h : List Entry) (at : Option Size) (coming : List MirrorFrame) (s : State) → flags_of (from coming at) h ≡ flat_map flags_at (watching at coming s h)
unfolding watching
flags_from [] at coming s = refl
flags_from (x ∷ xs) at coming s = by (is_terminal x.actor) (flags_from xs)
  where
    by : (b : Bool) → ((a : Option Size) (fs : List MirrorFrame) (t : State) → flags_of (from fs a) xs ≡ flat_map flags_at (watching a fs t xs))
        → flag_at (from coming at) x.event ++ flags_of (if b then watched_at (from coming at) x.event else from coming at) xs
        ≡ (if is_paint x.event then is_some at ∷ [] else [])
        ++ flat_map flags_at (if b then watching (attached_at at x.event coming) (drop 1 coming) (moved s x) xs else watching at coming (moved s x) xs)
    by true rest =
        ap (λ (bs : List Bool). bs ++ flags_of (watched_at (from coming at) x.event) xs) (flag_same at coming x.event)
        ∙ ap (λ (bs : List Bool). (if is_paint x.event then is_some at ∷ [] else []) ++ bs)
        (ap (λ (w : Watch). flags_of w xs) (attached_same at x.event coming) ∙ rest (attached_at at x.event coming) (drop 1 coming) (moved s x))
    by false rest =
        ap (λ (bs : List Bool). bs ++ flags_of (from coming at) xs) (flag_same at coming x.event)
        ∙ ap (λ (bs : List Bool). (if is_paint x.event then is_some at ∷ [] else []) ++ bs) (rest at coming (moved s x))

pub seconds_same : (frames : List MirrorFrame) (s : State) (h : List Entry) → seconds_of (from frames None) s h ≡ now.seconds_of frames s h
seconds_same frames s h = seconds_from h None frames s

pub flags_same : (frames : List MirrorFrame) (s : State) (h : List Entry) → flags_of (from frames None) h ≡ now.flags_of frames s h
flags_same frames s h = flags_from h None frames s

pub picked_same : (bs : List Bool) (es : List ℕ) → picked bs es ≡ now.picked bs es
picked_same [] es = refl
picked_same (b ∷ bs) [] = refl
picked_same (true ∷ bs) (e ∷ es) = ap (λ (ns : List ℕ). e ∷ ns) (picked_same bs es)
picked_same (false ∷ bs) (e ∷ es) = picked_same bs es

pub stays_so : (at : ℕ) (bs : List Bool) (es : List ℕ) → Stays at bs es → AllByRecursion (λ p. p.0 ≡ false → p.1.1 ≡ p.1.0) (zip bs (zip (at ∷ es) es))
stays_so at [] es k = tt
stays_so at (b ∷ bs) [] k = tt
stays_so at (true ∷ bs) (e ∷ es) k = ((λ f. absurd (cc)), stays_so e bs es k)
stays_so at (false ∷ bs) (e ∷ es) k = ((λ f. k.0), stays_so e bs es k.1)

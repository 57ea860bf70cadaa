-- What the painter has drawn behind entries of others, and behind a Paint.
use Rattle.std.proofs.Common.{◌≡◌, ℕ, ◌+◌, Bool, true, false, List, [], ◌∷◌, ◌++◌, length, Option, Some, Result, Ok, Err, refl, sym, ap}
use Rattle.std.proofs.Common.{◌∙◌, subst, inl, inr, append_assoc, append-nil}
use Rattle.std.specs.Prelude.{not, if◌then◌else◌}
use Rattle.std.specs.List.{list_all}
use Rattle.std.specs.Result.{IsErr}
use Rattle.std.proofs.lemmas.Bool.{and_parts}
use Rattle.con_units.specs.declared.code.OutOfMemory.{OutOfMemory}
use Rattle.con_units.specs.declared.place.Size.{Size}
use Rattle.con_units.specs.declared.view.View.{View}
use Rattle.con_term.specs.Terminal.{Terminal}
use Rattle.con_paint.specs.Painter.{Kept, Allows, Paints, IsShown, unpainted}
use Rattle.con_events.specs.declared.actor.Actor.{Actor}
use Rattle.con_events.specs.declared.actor.Actor.TheVariants as actors
use Rattle.con_events.specs.declared.entry.Entry.{Entry}
use Rattle.con_events.specs.declared.event.Event.TheVariants as events
use Rattle.con_machine.specs.History.{run, is_legal}
use Rattle.con_machine.specs.HistoryLaws.{run-append, paints-append}
use Rattle.con_laws.specs.Rounds.{Begun}
use Rattle.con_machine.specs.State.{State}
use Rattle.con_machine.specs.Step.{step, is_ready}
use Rattle.con_machine.specs.Turns.{moved, paints}
use Rattle.con_actors.specs.declared.desk.Brief.{Brief}
use Rattle.con_actors.specs.declared.desk.Picture.{Picture}
use Rattle.con_actors.specs.CanvasLaws.{canvas_ok, joined_more, painted_count}
use Rattle.con_actors.specs.Desk.{listed}
use Rattle.con_actors.specs.Words.Desk.{entry, is_painter}
use Rattle.con_actors.specs.DeskLaws.{run_one}
use Rattle.con_actors.specs.Painting.{CanvasIs, IsTied, PainterStands, Pictures}
use Rattle.con_actors.specs.PaintCounts.{no_paint}
use Rattle.con_actors.specs.PaintingLaws.{painter_other, none_each}
use Rattle.con_actors.specs.Words.Runs.{joined}
use Rattle.con_actors.specs.TiedLaws.{no_painter, tied_ran, tied_paint}
use Rattle.con_threads.specs.Painters.{Draws, DrawsLess, PainterTurn}
use Rattle.con_threads.specs.Ledger.{IsPicture}
use Rattle.con_threads.specs.Scribe.{is_same, opened, history, SeesMore, HasEntered}
use Rattle.con_threads.specs.ScribeLaws as scribes
use Rattle.con_threads.specs.declared.ledger.Told.{Told}
use Rattle.con_threads.specs.declared.ledger.Told.TheVariants as tolds
use Rattle.con_threads.specs.declared.painter.PainterThread.{PainterThread}

-- ---- entries of others

-- what it keeps is the view that was painted last
pub tied_between : (start : State) (h r : List Entry) (kept : Kept) → list_all (λ x. not (is_painter x.actor)) r ≡ true → is_legal (run start h) r ≡ true
    → IsTied (run start h) kept → IsTied (run start (h ++ r)) kept
tied_between start h r kept o l k =
    tied_ran (run start h) (run start (h ++ r)) h (h ++ r) kept (record { entries = r; after' = refl; state = run-append start h r; legal = l; others = o }) k

-- it stands
pub stands_between : (b : Begun) (h r : List Entry) (size : Size) (kept : Kept) (ps : List (List ℕ)) → list_all (λ x. not (is_painter x.actor)) r ≡ true
    → is_legal (run b.state h) r ≡ true → PainterStands b h size kept ps → PainterStands b (h ++ r) size kept ps
stands_between b h [] size kept ps o l k = let P : List Entry → Type 0 = λ z. PainterStands b z size kept ps in subst P (sym (append-nil h)) k
stands_between b h (x ∷ xs) size kept ps o l k =
    let s = run b.state h in
    let p = and_parts (is_ready s x.actor x.event) (is_legal (moved s x) xs) l in
    let q = and_parts (not (is_painter x.actor)) (list_all (λ z. not (is_painter z.actor)) xs) o in
    let n = no_paint s x.actor x.event p.0 (no_painter x.actor q.0) in
    let P : List Entry → Type 0 = λ z. PainterStands b z size kept ps in
    let L : State → Type 0 = λ z. is_legal z xs ≡ true in
    subst P (append_assoc h (x ∷ []) xs)
    (stands_between b (h ++ x ∷ []) xs size kept ps q.1 (subst L (sym (run_one b.state h x)) p.1) (painter_other b h (h ++ x ∷ []) x size kept ps n refl k))

pub canvas_between : (b : Begun) (h r : List Entry) (size : Size) (kept : Kept) (ps : List (List ℕ)) (ends : List ℕ) (end : ℕ) (before now : Option (List ℕ))
    (failed : Bool)
    → list_all (λ x. not (is_painter x.actor)) r ≡ true → is_legal (run b.state h) r ≡ true
    → CanvasIs b h size kept ps ends end before now failed → CanvasIs b (h ++ r) size kept ps ends end before now failed
canvas_between b h r size kept ps ends end before now failed o l k =
    record { stands = stands_between b h r size kept ps o l k.stands; written = k.written; ends' = k.ends'; end' = k.end' }

-- the same of what an actor has seen more
pub sees_at : (start from : State) (actor : Actor) (h g : List Entry) → start ≡ from → actor ≡ actors.Painter → SeesMore start actor h g
    → SeesMore from actors.Painter h g
sees_at start from actor h g e i k =
    let P : State → Type 0 = λ z. SeesMore z actor h g in let Q : Actor → Type 0 = λ a. SeesMore from a h g in subst Q i (subst P e k)

pub tied_sees : (start : State) (h g : List Entry) (kept : Kept) → SeesMore start actors.Painter h g → IsTied (run start h) kept → IsTied (run start g) kept
tied_sees start h g kept m k =
    let P : List Entry → Type 0 = λ z. IsTied (run start z) kept in
    subst P (sym m.entries') (tied_between start h m.between kept (scribes.no_painter m.between m.others) m.legal k)

pub canvas_sees : (b : Begun) (h g : List Entry) (size : Size) (kept : Kept) (ps : List (List ℕ)) (ends : List ℕ) (end : ℕ) (before now : Option (List ℕ))
    (failed : Bool)
    → SeesMore b.state actors.Painter h g
    → CanvasIs b h size kept ps ends end before now failed → CanvasIs b g size kept ps ends end before now failed
canvas_sees b h g size kept ps ends end before now failed m k =
    let P : List Entry → Type 0 = λ z. CanvasIs b z size kept ps ends end before now failed in
    subst P (sym m.entries') (canvas_between b h m.between size kept ps ends end before now failed (scribes.no_painter m.between m.others) m.legal k)

-- ---- a Paint

pub tied_drawn : (start : State) (h1 g : List Entry) (v : View) (fresh : Bool) (kept : Kept) → g ≡ h1 ++ entry actors.Painter events.Paint ∷ []
    → Pictures v fresh (run start h1) → IsShown kept v → (kept.w ≡ v.size.w) × (kept.h ≡ v.size.h) → IsTied (run start g) kept
tied_drawn start h1 g v fresh kept e p shown sizes =
    let s = run start h1 in
    let x = entry actors.Painter events.Paint in
    let state : run start g ≡ (step s actors.Painter events.Paint).after = ap (λ (z : List Entry). run start z) e ∙ run_one start h1 x in
    tied_paint s (run start g) h1 g [] (listed (step s actors.Painter events.Paint).reply ∷ []) v fresh kept
    (record { state = state; entries = e; replies = refl }) p shown sizes

-- with its frame
pub drawn : (b : Begun) (size : Size) (kept after : Kept) (ps : List (List ℕ)) (ends more : List ℕ) (end upto : ℕ) (v : View) (fresh : Bool) (bytes : List ℕ)
    (h1 g : List Entry)
    → g ≡ h1 ++ entry actors.Painter events.Paint ∷ [] → Pictures v fresh (run b.state h1)
    → ((t : Terminal) → Allows (if fresh then unpainted v.size.w v.size.h else kept) t
    → Paints (if fresh then unpainted v.size.w v.size.h else kept) after v bytes t)
    → IsShown after v → ((after.w ≡ v.size.w) × (after.h ≡ v.size.h))
    → upto ≡ end + length bytes → more ≡ ends ++ upto ∷ [] → Draws b h1 size kept ps ends end → Draws b g size after (ps ++ bytes ∷ []) more upto
drawn b size kept after ps ends more end upto v fresh bytes h1 g e pictures paints shown sizes u em k =
    canvas_ok b size (Some []) (Some (joined ps)) (Some (joined (ps ++ bytes ∷ []))) kept after ps ends end upto v fresh false bytes bytes more
    (run b.state h1) h1 g refl refl e pictures paints shown sizes refl
    (ap (λ (x : List ℕ). Some x) (joined_more ps bytes)) u k em

-- and with none, since there was no memory
pub drawn_none : (b : Begun) (h1 g : List Entry) (size : Size) (kept : Kept) (ps : List (List ℕ)) (ends : List ℕ) (end : ℕ)
    → g ≡ h1 ++ entry actors.Painter events.Paint ∷ [] → Draws b h1 size kept ps ends end → DrawsLess b g size ps ends
drawn_none b h1 g size kept ps ends end e k = record {
  canvas = record {
    pieces = ps;
    each = none_each b h1 g size kept ps e k.stands;
    ends' = k.ends';
    count =
        inr (ap (λ (n : ℕ). n + 1) (painted_count b h1 size kept ps k.stands) ∙ sym (ap paints e ∙ paints-append h1 (entry actors.Painter events.Paint ∷ [])));
    failed = false;
    written = k.written;
  };
  pieces' = refl;
}

pub drawn_less : (b : Begun) (h : List Entry) (size : Size) (kept : Kept) (ps : List (List ℕ)) (ends : List ℕ) (end : ℕ) → Draws b h size kept ps ends end
    → DrawsLess b h size ps ends
drawn_less b h size kept ps ends end k = record {
  canvas =
      record { pieces = ps; each = k.stands.each; ends' = k.ends'; count = inl (painted_count b h size kept ps k.stands); failed = false; written = k.written };
  pieces' = refl;
}

pub less_ends : (b : Begun) (h : List Entry) (size : Size) (ps : List (List ℕ)) (ends old : List ℕ) → ends ≡ old → DrawsLess b h size ps old
    → DrawsLess b h size ps ends
less_ends b h size ps ends old e k = let P : List ℕ → Type 0 = λ z. DrawsLess b h size ps z in subst P (sym e) k

pub draws_ends : (b : Begun) (h : List Entry) (size : Size) (kept : Kept) (ps : List (List ℕ)) (ends old : List ℕ) (end : ℕ) → ends ≡ old
    → Draws b h size kept ps old end → Draws b h size kept ps ends end
draws_ends b h size kept ps ends old end e k = let P : List ℕ → Type 0 = λ z. Draws b h size kept ps z end in subst P (sym e) k

-- ---- what its own entry tells

module _ (start : State) (actor : Actor) (told : Told) (h g : List Entry) (me : actor ≡ actors.Painter) (e : HasEntered start actor events.Paint told h g) where
  abbrev there : List Entry
  there = h ++ e.between

  pub no_others : list_all (λ x. not (is_painter x.actor)) e.between ≡ true
  no_others = let P : Actor → Type 0 = λ a. list_all (λ x. not (is_same a x.actor)) e.between ≡ true in scribes.no_painter e.between (subst P me e.others)

  pub grew : g ≡ there ++ entry actors.Painter events.Paint ∷ []
  grew = e.entries' ∙ ap (λ (a : Actor). there ++ entry a events.Paint ∷ []) me

  pub tied_there : (kept : Kept) → IsTied (run start h) kept → IsTied (run start there) kept
  tied_there kept k = tied_between start h e.between kept no_others e.legal k

  -- the canvas behind what others entered
  pub canvas_there : (b : Begun) (size : Size) (kept : Kept) (ps : List (List ℕ)) (ends : List ℕ) (end : ℕ) → start ≡ b.state → Draws b h size kept ps ends end
      → Draws b there size kept ps ends end
  canvas_there b size kept ps ends end i k =
      let L : State → Type 0 = λ z. is_legal (run z h) e.between ≡ true in
      canvas_between b h e.between size kept ps ends end (Some []) (Some (joined ps)) false no_others (subst L i e.legal) k

  -- no frame was made
  pub paint_none : (b : Begun) (size : Size) (kept : Kept) (ps : List (List ℕ)) (ends more : List ℕ) (end : ℕ) → start ≡ b.state → more ≡ ends
      → Draws b h size kept ps ends end → DrawsLess b g size ps more
  paint_none b size kept ps ends more end i m k =
      less_ends b g size ps more ends m (drawn_none b there g size kept ps ends end grew (canvas_there b size kept ps ends end i k))

  -- it tells no brief
  pub no_brief : (b : Brief) → told ≡ tolds.Brief b → ⊥
  no_brief b is = let P : Told → Type 0 = λ t. IsPicture t (run start there) in subst P is e.tells

  -- it tells its picture
  pub picture : (p : Picture) → told ≡ tolds.Picture p → IsPicture (tolds.Picture p) (run start there)
  picture p is = let P : Told → Type 0 = λ t. IsPicture t (run start there) in subst P is e.tells

  -- and a frame was made of it
  pub paint_tied : (p : Picture) (after : Kept) → told ≡ tolds.Picture p → IsShown after p.view → (after.w ≡ p.view.size.w) × (after.h ≡ p.view.size.h)
      → IsTied (run start g) after
  paint_tied p after is shown sizes = tied_drawn start there g p.view p.fresh after grew (picture p is).0 shown sizes

  pub paint_drawn : (p : Picture) → told ≡ tolds.Picture p
      → (b : Begun) (size : Size) (kept after : Kept) (ps : List (List ℕ)) (ends more : List ℕ) (end upto : ℕ) (bytes : List ℕ) → start ≡ b.state
      → ((t : Terminal) → Allows (if p.fresh then unpainted p.view.size.w p.view.size.h else kept) t
      → Paints (if p.fresh then unpainted p.view.size.w p.view.size.h else kept) after p.view bytes t)
      → IsShown after p.view → ((after.w ≡ p.view.size.w) × (after.h ≡ p.view.size.h))
      → upto ≡ end + length bytes → more ≡ ends ++ upto ∷ [] → Draws b h size kept ps ends end → Draws b g size after (ps ++ bytes ∷ []) more upto
  paint_drawn p is b size kept after ps ends more end upto bytes i paints shown sizes u m k =
      let P : State → Type 0 = λ z. Pictures p.view p.fresh (run z there) in
      drawn b size kept after ps ends more end upto p.view p.fresh bytes there g grew (subst P i (picture p is).0) paints shown sizes u m
      (canvas_there b size kept ps ends end i k)

-- ---- nothing was entered

pub rests_drawn : (start : State) (actor : Actor) (h g : List Entry) → actor ≡ actors.Painter → SeesMore start actor h g
    → (b : Begun) (size : Size) (kept : Kept) (ps : List (List ℕ)) (ends more : List ℕ) (end : ℕ) → start ≡ b.state → more ≡ ends
    → Draws b h size kept ps ends end → Draws b g size kept ps more end
rests_drawn start actor h g me x b size kept ps ends more end i m k =
    draws_ends b g size kept ps more ends end m
    (canvas_sees b h g size kept ps ends end (Some []) (Some (joined ps)) false (sees_at start b.state actor h g i me x) k)

pub rests_less : (start : State) (actor : Actor) (h g : List Entry) → actor ≡ actors.Painter → SeesMore start actor h g
    → (b : Begun) (size : Size) (kept : Kept) (ps : List (List ℕ)) (ends more : List ℕ) (end : ℕ) → start ≡ b.state → more ≡ ends
    → Draws b h size kept ps ends end → DrawsLess b g size ps more
rests_less start actor h g me x b size kept ps ends more end i m k =
    drawn_less b g size kept ps more end (rests_drawn start actor h g me x b size kept ps ends more end i m k)

pub rests_tied : (start : State) (actor : Actor) (h g : List Entry) (kept : Kept) → actor ≡ actors.Painter → SeesMore start actor h g
    → IsTied (run start h) kept
    → IsTied (run start g) kept
rests_tied start actor h g kept me x k = tied_sees start h g kept (sees_at start start actor h g refl me x) k

-- the console began as it did
pub tied_from : (start from : State) (g : List Entry) (kept : Kept) → from ≡ start → IsTied (run start g) kept → IsTied (run from g) kept
tied_from start from g kept e k = let P : State → Type 0 = λ z. IsTied (run z g) kept in subst P (sym e) k

-- ---- an answer that is no value

-- there is no memory behind a turn at the pipe
abbrev pub Lessens : PainterThread → PainterThread → Type 0
Lessens old new = (b : Begun) (size : Size) (ps : List (List ℕ)) → opened old.scribe ≡ b.state
    → Draws b (history old.scribe) size old.painter ps old.ends.items old.end → DrawsLess b (history new.scribe) size ps new.ends.items

pub turn_err : (result : Result (Option (List ℕ)) OutOfMemory) (old new : PainterThread) → IsErr result → Lessens old new → PainterTurn result old new
turn_err (Ok x) old new i k = absurd (cc)
turn_err (Err e) old new i k = k

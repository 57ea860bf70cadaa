-- What the painter has drawn behind entries of others, where a Paint may have no piece.
use Rattle.std.proofs.Common.{◌≡◌, ℕ, ◌+◌, arith, Bool, true, false, List, [], ◌∷◌, ◌++◌, Option, Some, None, refl, sym, ap}
use Rattle.std.proofs.Common.{◌∙◌, subst, inl, inr}
use Rattle.std.specs.Prelude.{not, if◌then◌else◌}
use Rattle.std.specs.List.{list_all}
use Rattle.std.proofs.lemmas.Bool.{and_parts}
use Rattle.con_units.specs.declared.place.Size.{Size}
use Rattle.con_units.specs.declared.view.View.{View}
use Rattle.con_units.specs.declared.view.Sight.{Sight}
use Rattle.con_units.specs.declared.view.Sight.TheVariants as sights
use Rattle.con_term.specs.Play.{play}
use Rattle.con_term.specs.Terminal.{Terminal}
use Rattle.con_events.specs.declared.actor.Actor.TheVariants as actors
use Rattle.con_events.specs.declared.entry.Entry.{Entry}
use Rattle.con_events.specs.declared.event.Event.{Event}
use Rattle.con_events.specs.declared.event.Event.TheVariants as events
use Rattle.con_machine.specs.History.{run, is_legal}
use Rattle.con_machine.specs.HistoryLaws.{paints-append, sights-append}
use Rattle.con_laws.specs.Rounds.{Begun}
use Rattle.con_machine.specs.State.{State}
use Rattle.con_machine.specs.Sights.{sights_of, sights_at}
use Rattle.con_machine.specs.Step.{is_ready}
use Rattle.con_machine.specs.Turns.{moved, is_paint, paints}
use Rattle.con_actors.specs.Words.Desk.{is_painter}
use Rattle.con_actors.specs.Painting.{CanvasEnds}
use Rattle.con_actors.specs.PaintCounts.{no_paint}
use Rattle.con_actors.specs.Words.Runs.{EachPiece, Painted, joined}
use Rattle.con_actors.specs.TiedLaws.{no_painter}
use Rattle.con_threads.specs.Painters.{DrawsLess}
use Rattle.con_threads.specs.Scribe.{SeesMore}
use Rattle.con_threads.specs.ScribeLaws as scribes

-- they have sights of new sizes alone
abbrev pub OnlySizes : List Sight → Type 0
OnlySizes [] = Unit {0}
OnlySizes (sights.Resize z ∷ ss) = OnlySizes ss
OnlySizes (sights.Paint v ∷ ss) = ⊥

sizes_each : (t : Terminal) (last : Option View) (ss : List Sight) (ps : List (List ℕ)) → OnlySizes ss → EachPiece Painted t last ss ps
sizes_each t last [] ps o = tt
sizes_each t last (sights.Resize z ∷ ss) ps o = λ u i. sizes_each u None ss ps o
sizes_each t last (sights.Paint v ∷ ss) ps o = absurd o

pub pieces_then : (t : Terminal) (last : Option View) (ss more : List Sight) (ps : List (List ℕ)) → OnlySizes more → EachPiece Painted t last ss ps
    → EachPiece Painted t last (ss ++ more) ps
pieces_then t last [] more ps o e = sizes_each t last more ps o
pieces_then t last (sights.Resize z ∷ ss) more ps o e = λ u i. pieces_then u None ss more ps o (e u i)
pieces_then t last (sights.Paint v ∷ ss) more [] o e = tt
pieces_then t last (sights.Paint v ∷ ss) more (p ∷ ps) o e = (e.0, pieces_then (play t p) (Some v) ss more ps o e.1)

sizes_then : (s : State) (e : Event) (ss : List Sight) → is_paint e ≡ false → OnlySizes ss → OnlySizes (sights_at s e ++ ss)
sizes_then s (events.Call c) ss n o = o
sizes_then s (events.Begin w) ss n o = o
sizes_then s events.Collect ss n o = o
sizes_then s events.TakeCtrl ss n o = o
sizes_then s (events.Exit status) ss n o = o
sizes_then s (events.Feed bytes) ss n o = o
sizes_then s events.Quiet ss n o = o
sizes_then s (events.Resize z) ss n o = o
sizes_then s events.Ask ss n o = o
sizes_then s events.Hangup ss n o = o
sizes_then s events.Drained ss n o = o
sizes_then s events.Paint ss n o = absurd (cc)

pub only_sizes : (s : State) (r : List Entry) → list_all (λ x. not (is_painter x.actor)) r ≡ true → is_legal s r ≡ true → OnlySizes (sights_of s r)
only_sizes s [] o l = tt
only_sizes s (x ∷ xs) o l =
    let p = and_parts (is_ready s x.actor x.event) (is_legal (moved s x) xs) l in
    let q = and_parts (not (is_painter x.actor)) (list_all (λ z. not (is_painter z.actor)) xs) o in
    sizes_then s x.event (sights_of (moved s x) xs) (no_paint s x.actor x.event p.0 (no_painter x.actor q.0)) (only_sizes (moved s x) xs q.1 p.1)

pub paints_none : (s : State) (r : List Entry) → list_all (λ x. not (is_painter x.actor)) r ≡ true → is_legal s r ≡ true → paints r ≡ 0
paints_none s [] o l = refl
paints_none s (x ∷ xs) o l =
    let p = and_parts (is_ready s x.actor x.event) (is_legal (moved s x) xs) l in
    let q = and_parts (not (is_painter x.actor)) (list_all (λ z. not (is_painter z.actor)) xs) o in
    let n = no_paint s x.actor x.event p.0 (no_painter x.actor q.0) in
    ap (λ (b : Bool). (if b then 1 else 0) + paints xs) n ∙ ap (λ (m : ℕ). 0 + m) (paints_none (moved s x) xs q.1 p.1)

pub ends_between : (b : Begun) (h r : List Entry) (size : Size) (ends : List ℕ) (before now : Option (List ℕ)) (k : CanvasEnds b h size ends before now)
    → list_all (λ x. not (is_painter x.actor)) r ≡ true → is_legal (run b.state h) r ≡ true
    → (e : CanvasEnds b (h ++ r) size ends before now) × (e.pieces ≡ k.pieces)
ends_between b h r size ends before now k o l =
    let E : List Sight → (t : Terminal) → Type 0 = λ ss t. EachPiece Painted t None ss k.pieces in
    let n : paints (h ++ r) ≡ paints h = paints-append h r
    ∙ (ap (λ (m : ℕ). paints h + m) (paints_none (run b.state h) r o l) ∙ (let z : paints h + 0 ≡ paints h = omega arith in z)) in (
      record {
        pieces = k.pieces;
        each =
            λ t i.
            subst (λ (ss : List Sight). E ss t) (sym (sights-append b.state h r))
            (pieces_then t None (sights_of b.state h) (sights_of (run b.state h) r) k.pieces (only_sizes (run b.state h) r o l) (k.each t i));
        ends' = k.ends';
        count = elim k.count [ inl c ↦ inl (c ∙ sym n) | inr c ↦ inr (c ∙ sym n) ];
        failed = k.failed;
        written = k.written;
      },
      refl,
    )

pub less_sees : (b : Begun) (h g : List Entry) (size : Size) (ps : List (List ℕ)) (ends : List ℕ) → SeesMore b.state actors.Painter h g
    → DrawsLess b h size ps ends → DrawsLess b g size ps ends
less_sees b h g size ps ends m k =
    let P : List Entry → Type 0 = λ z. DrawsLess b z size ps ends in
    let e = ends_between b h m.between size ends (Some []) (Some (joined ps)) k.canvas (scribes.no_painter m.between m.others) m.legal in
    subst P (sym m.entries') (record { canvas = e.0; pieces' = e.1 ∙ k.pieces' })

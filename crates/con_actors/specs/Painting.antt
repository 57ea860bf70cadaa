-- The painter behind a history.
use Rattle.std.specs.Prelude.{◌≡◌, ◌⊎◌, ℕ, ◌+◌, ◌≤◌, Bool, true, false, List, [], ◌∷◌, ◌++◌, length, take, Option, Some, None, Result, Ok, Err, option_map}
use Rattle.con_units.specs.declared.code.OutOfMemory.{OutOfMemory}
use Rattle.con_units.specs.declared.place.Size.{Size}
use Rattle.con_units.specs.Words.View.{IsWhole}
use Rattle.con_units.specs.declared.view.View.{View}
use Rattle.con_outside.specs.Outside.{then_written}
use Rattle.con_term.specs.Terminal.{Terminal, IsTerminal}
use Rattle.con_paint.specs.Painter.{Kept, Allows}
use Rattle.con_events.specs.declared.actor.Actor.TheVariants as actors
use Rattle.con_events.specs.declared.entry.Entry.{Entry}
use Rattle.con_events.specs.declared.event.Event.TheVariants as events
use Rattle.con_events.specs.declared.reply.Reply.{Reply}
use Rattle.con_machine.specs.History.{run}
use Rattle.con_machine.specs.Painting.{view_now}
use Rattle.con_machine.specs.Words.Painting.{is_fresh}
use Rattle.con_laws.specs.Rounds.{Begun}
use Rattle.con_laws.specs.RoundWords.{IsTurn}
use Rattle.con_machine.specs.Sights.{sights_of}
use Rattle.con_machine.specs.State.{State}
use Rattle.con_machine.specs.Step.{is_ready}
use Rattle.con_machine.specs.Turns.{paints}
use Rattle.con_actors.specs.Words.Desk.{Enters, Rests}
use Rattle.con_actors.specs.Words.Runs.{Painted, Matched, EachPiece, Reaches, joined, ends_from}
use Rattle.con_actors.specs.declared.desk.Picture.{Picture}

-- what the painter keeps is the view that was painted last; equations alone, so that a caller can hand it on
pub record IsTied (s : State) (kept : Kept) : Type 0 where
  pub known : is_fresh s ≡ false → kept.known ≡ true
  pub cells : is_fresh s ≡ false → option_map (λ v. v.rows) s.painted ≡ Some kept.cells
  pub wide : is_fresh s ≡ false → kept.w ≡ s.buffers.w
  pub high : is_fresh s ≡ false → kept.h ≡ s.buffers.h

-- the painter keeps the view that was painted last
pub record KeepsView (s : State) (kept : Kept) : Type 0 where
  pub old : View
  pub painted' : s.painted ≡ Some old
  pub known : kept.known ≡ true
  pub cells : kept.cells ≡ old.rows
  pub wide : kept.w ≡ s.buffers.w
  pub high : kept.h ≡ s.buffers.h

-- what is known of a terminal that was reached
pub record Reached (s : State) (kept : Kept) (u : Terminal) (l : Option View) : Type 0 where
  pub fresh : is_fresh s ≡ true → IsTerminal s.buffers.w s.buffers.h u × (l ≡ None)
  pub allowed : is_fresh s ≡ false → Allows kept u × (l ≡ s.painted)

-- in every terminal run each piece has what is claimed of its Paint, and the painter allows where it comes to
pub record PainterStands (b : Begun) (h : List Entry) (size : Size) (kept : Kept) (ps : List (List ℕ)) : Type 0 where
  pub matched : Matched (sights_of b.state h) ps
  pub each : (t : Terminal) → IsTerminal size.w size.h t → EachPiece Painted t None (sights_of b.state h) ps
  pub reach : (t : Terminal) → IsTerminal size.w size.h t → (u : Terminal) (l : Option View) → Reaches t None (sights_of b.state h) ps u l
      → Reached (run b.state h) kept u l
  pub keeps : is_fresh (run b.state h) ≡ false → KeepsView (run b.state h) kept

-- what was written: a front of the pieces, all of them while nothing failed
pub record Written (before now : Option (List ℕ)) (ps : List (List ℕ)) (failed : Bool) : Type 0 where
  pub count : ℕ
  pub most : count ≤ length (joined ps)
  pub front : now ≡ then_written before (take count (joined ps))
  pub whole : failed ≡ false → count ≡ length (joined ps)

-- a Paint was entered, in the painter's turn
pub record EntersPaint (s t : State) (h g : List Entry) (rs qs : List Reply) : Type 0 where
  pub enters : Enters s t h g rs qs actors.Painter events.Paint
  pub ready : is_ready s actors.Painter events.Paint ≡ true

-- a picture is of a console: its view, of the window's size, and whether nothing was painted on a terminal of this size
pub record Pictures (v : View) (fresh : Bool) (s : State) : Type 0 where
  pub view : v ≡ view_now s
  pub fresh' : fresh ≡ is_fresh s
  pub wide : v.size.w ≡ s.buffers.w
  pub high : v.size.h ≡ s.buffers.h

-- What a turn of the painter painted: the console's view, whole, at a Paint that was entered; none where nothing was.
abbrev pub Pictured : Result (Option Picture) OutOfMemory → State → State → List Entry → List Entry → List Reply → List Reply → Type 0
Pictured (Ok (Some p)) s t h g rs qs = Pictures p.view p.fresh s × IsWhole p.view × EntersPaint s t h g rs qs
Pictured (Ok None) s t h g rs qs = Rests s t h g rs qs
Pictured (Err e) s t h g rs qs = Unit {0}

-- whether it painted
abbrev pub acted : Result (Option Picture) OutOfMemory → Result Bool OutOfMemory
acted (Ok (Some p)) = Ok true
acted (Ok None) = Ok false
acted (Err e) = Err e

-- the painter with what it wrote
pub record CanvasIs (b : Begun) (h : List Entry) (size : Size) (kept : Kept) (ps : List (List ℕ)) (ends : List ℕ) (end : ℕ)
    (before now : Option (List ℕ)) (failed : Bool) : Type 0 where
  pub stands : PainterStands b h size kept ps
  pub written : Written before now ps failed
  pub ends' : ends ≡ ends_from 0 ps
  pub end' : end ≡ length (joined ps)

-- what a session's end needs of it
pub record CanvasEnds (b : Begun) (h : List Entry) (size : Size) (ends : List ℕ) (before now : Option (List ℕ)) : Type 0 where
  pub pieces : List (List ℕ)
  pub each : (t : Terminal) → IsTerminal size.w size.h t → EachPiece Painted t None (sights_of b.state h) pieces
  pub ends' : ends ≡ ends_from 0 pieces
  pub count : (length pieces ≡ paints h) ⊎ (length pieces + 1 ≡ paints h)
  pub failed : Bool
  pub written : Written before now pieces failed

-- a turn of the painter: false where no Paint is ready or the terminal has failed; where there is no memory a Paint may be entered that has no frame
abbrev pub PaintTurn : Result Bool OutOfMemory → Begun → State → State → List Entry → List Entry → List Reply → List Reply → Size → Kept → List (List ℕ)
    → List ℕ → ℕ → Option (List ℕ) → Option (List ℕ) → Bool → Type 0
PaintTurn (Ok true) b s t h g rs qs size kept ps ends end before now failed =
    EntersPaint s t h g rs qs × ((p : List ℕ) × CanvasIs b g size kept (ps ++ p ∷ []) ends end before now failed)
PaintTurn (Ok false) b s t h g rs qs size kept ps ends end before now failed =
    Rests s t h g rs qs × ((failed ≡ true) ⊎ (is_ready s actors.Painter events.Paint ≡ false)) × CanvasIs b g size kept ps ends end before now failed
PaintTurn (Err e) b s t h g rs qs size kept ps ends end before now failed = (Rests s t h g rs qs ⊎ EntersPaint s t h g rs qs)
    × CanvasEnds b g size ends before now

-- whether the painter acts is as its turn says
abbrev pub PainterActs : Result Bool OutOfMemory → Begun → List Entry → Type 0
PainterActs (Ok true) b h = IsTurn b h actors.Painter (Some events.Paint)
PainterActs (Ok false) b h = IsTurn b h actors.Painter None
PainterActs (Err e) b h = IsTurn b h actors.Painter (Some events.Paint)

-- whether the terminal has failed, before and after: where a Paint is entered it had not
abbrev pub PainterFails : Result Bool OutOfMemory → Bool → Bool → Type 0
PainterFails (Ok true) old new = old ≡ false
PainterFails (Ok false) old new = new ≡ old
PainterFails (Err e) old new = (old ≡ false) × (new ≡ false)

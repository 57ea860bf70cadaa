-- The painter's thread.
use Rattle.std.specs.Prelude.{◌≡◌, ℕ, Bool, false, List, [], ◌∷◌, ◌++◌, Option, Some, None, Result, Ok, Err}
use Rattle.con_units.specs.declared.code.OutOfMemory.{OutOfMemory}
use Rattle.con_units.specs.declared.place.Size.{Size}
use Rattle.con_events.specs.declared.actor.Actor.TheVariants as actors
use Rattle.con_events.specs.declared.entry.Entry.{Entry}
use Rattle.con_paint.specs.Painter.{Kept}
use Rattle.con_machine.specs.History.{run}
use Rattle.con_laws.specs.Rounds.{Begun}
use Rattle.con_actors.specs.Painting.{CanvasIs, CanvasEnds, IsTied}
use Rattle.con_actors.specs.Words.Runs.{joined}
use Rattle.con_pipe.specs.PipeEnds.{pieces_put, IsSameIn}
use Rattle.con_pipe.specs.declared.put.PipeIn.{PipeIn}
use Rattle.con_threads.specs.Scribe.{IsScribe, IsSameScribe, opened, history}
use Rattle.con_threads.specs.declared.painter.PainterThread.{PainterThread}

-- The painter, as far as its thread has seen the history: a piece for each Paint, whatever is written of them, and where each ends.
-- As if all pieces were written to a sink that had nothing.
abbrev pub Draws : Begun → List Entry → Size → Kept → List (List ℕ) → List ℕ → ℕ → Type 0
Draws b h size kept ps ends end = CanvasIs b h size kept ps ends end (Some []) (Some (joined ps)) false

-- Where it had no memory, a Paint may have no piece.
pub record DrawsLess (b : Begun) (h : List Entry) (size : Size) (ps : List (List ℕ)) (ends : List ℕ) : Type 0 where
  pub canvas : CanvasEnds b h size ends (Some []) (Some (joined ps))
  pub pieces' : canvas.pieces ≡ ps

-- The pieces of its thread so far. Where there was no memory behind a Paint (`broken`), it makes no more.
pub record PainterGoes (b : Begun) (h : List Entry) (size : Size) (kept : Kept) (ps : List (List ℕ)) (ends : List ℕ) (end : ℕ) (broken : Bool) : Type 0 where
  pub draws : broken ≡ false → Draws b h size kept ps ends end
  pub less : DrawsLess b h size ps ends

-- What a painter's thread always is: while it was not broken it keeps the view that was painted last, as far as it has seen the history.
pub record IsPainterThread (t : PainterThread) : Type 0 where
  pub is_scribe : IsScribe t.scribe
  pub actor : t.scribe.actor ≡ actors.Painter
  pub tied : t.broken ≡ false → IsTied (run (opened t.scribe) (history t.scribe)) t.painter

-- a turn: a Paint with its piece, or none, or there was no memory
abbrev pub PainterTurn : Result (Option (List ℕ)) OutOfMemory → PainterThread → PainterThread → Type 0
PainterTurn (Ok (Some p)) old new = (b : Begun) (size : Size) (ps : List (List ℕ)) → opened old.scribe ≡ b.state
    → Draws b (history old.scribe) size old.painter ps old.ends.items old.end
    → Draws b (history new.scribe) size new.painter (ps ++ p ∷ []) new.ends.items new.end
PainterTurn (Ok None) old new = (b : Begun) (size : Size) (ps : List (List ℕ)) → opened old.scribe ≡ b.state
    → Draws b (history old.scribe) size old.painter ps old.ends.items old.end
    → Draws b (history new.scribe) size new.painter ps new.ends.items new.end
PainterTurn (Err e) old new = (b : Begun) (size : Size) (ps : List (List ℕ)) → opened old.scribe ≡ b.state
    → Draws b (history old.scribe) size old.painter ps old.ends.items old.end
    → DrawsLess b (history new.scribe) size ps new.ends.items

-- it is the same painter, and goes on as it went, with the pieces that it put into the pipe
pub record HasDrawn (old new : PainterThread) (put put' : PipeIn) : Type 0 where
  pub same : IsSameScribe old.scribe new.scribe
  pub is_painter : IsPainterThread new
  pub pipe : IsSameIn put put'
  pub drawn : (b : Begun) (size : Size) → opened old.scribe ≡ b.state
      → PainterGoes b (history old.scribe) size old.painter (pieces_put put) old.ends.items old.end old.broken
      → PainterGoes b (history new.scribe) size new.painter (pieces_put put') new.ends.items new.end new.broken

-- a turn at the sink: a Paint with its piece, which is written whole or `failed`, or none, or there was no memory
abbrev pub PaintsTo : Result (Option Bool) OutOfMemory → PainterThread → PainterThread → Option (List ℕ) → Option (List ℕ) → Type 0
PaintsTo (Ok (Some failed)) old new was now = (b : Begun) (size : Size) (before : Option (List ℕ)) (ps : List (List ℕ))
    → opened old.scribe ≡ b.state → CanvasIs b (history old.scribe) size old.painter ps old.ends.items old.end before was false
    → (qs : List (List ℕ)) × CanvasIs b (history new.scribe) size new.painter qs new.ends.items new.end before now failed
PaintsTo (Ok None) old new was now = (b : Begun) (size : Size) (before : Option (List ℕ)) (ps : List (List ℕ)) → opened old.scribe ≡ b.state
    → CanvasIs b (history old.scribe) size old.painter ps old.ends.items old.end before was false
    → (qs : List (List ℕ)) × CanvasIs b (history new.scribe) size new.painter qs new.ends.items new.end before now false
PaintsTo (Err e) old new was now = (b : Begun) (size : Size) (before : Option (List ℕ)) (ps : List (List ℕ)) → opened old.scribe ≡ b.state
    → CanvasIs b (history old.scribe) size old.painter ps old.ends.items old.end before was false
    → CanvasEnds b (history new.scribe) size new.ends.items before now

-- the Paints that were due were entered and written, until the sink failed
abbrev pub HasFinished : Result Bool OutOfMemory → PainterThread → PainterThread → Option (List ℕ) → Option (List ℕ) → Bool → Type 0
HasFinished (Ok later) old new was now failed = (b : Begun) (size : Size) (before : Option (List ℕ)) (ps : List (List ℕ))
    → opened old.scribe ≡ b.state → CanvasIs b (history old.scribe) size old.painter ps old.ends.items old.end before was failed
    → (qs : List (List ℕ)) × CanvasIs b (history new.scribe) size new.painter qs new.ends.items new.end before now later
HasFinished (Err e) old new was now failed = (b : Begun) (size : Size) (before : Option (List ℕ)) (ps : List (List ℕ))
    → opened old.scribe ≡ b.state → CanvasIs b (history old.scribe) size old.painter ps old.ends.items old.end before was failed
    → CanvasEnds b (history new.scribe) size new.ends.items before now

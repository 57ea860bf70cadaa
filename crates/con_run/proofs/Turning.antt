-- The painter's thread behind one more turn.
use Rattle.std.proofs.Common.{◌≡◌, ℕ, Bool, true, false, List, [], ◌∷◌, ◌++◌, Option, Some, None, Result, Ok, Err, sym, ◌∙◌, subst}
use Rattle.std.specs.Result.{IsErr}
use Rattle.con_units.specs.declared.code.OutOfMemory.{OutOfMemory}
use Rattle.con_units.specs.declared.place.Size.{Size}
use Rattle.con_outside.specs.Outside.{then_written, WroteFront}
use Rattle.con_laws.specs.Rounds.{Begun}
use Rattle.con_actors.specs.CanvasLaws.{canvas_ends}
use Rattle.con_actors.specs.Painting.{CanvasIs, CanvasEnds}
use Rattle.con_pipe.specs.PipeEnds.{pieces_put, IsSameIn}
use Rattle.con_pipe.specs.declared.put.PipeIn.{PipeIn}
use Rattle.con_threads.specs.Painters.{PainterGoes, PainterTurn, IsPainterThread, HasDrawn, PaintsTo, HasFinished}
use Rattle.con_threads.specs.Scribe.{opened, history, IsSameScribe}
use Rattle.con_threads.specs.ScribeLaws.{same_then, same_opened}
use Rattle.con_threads.specs.declared.painter.PainterThread.{PainterThread}
use Rattle.con_threads.proofs.Painting.{Lessens, drawn_less}
use Rattle.con_threads.proofs.Writing.{written_whole, written_part}
use Rattle.con_run.proofs.Written.{drawn_written, written_drawn, less_written}

-- ---- a turn at the pipe

abbrev pub Goes : Begun → Size → PainterThread → List (List ℕ) → Type 0
Goes b size t ps = PainterGoes b (history t.scribe) size t.painter ps t.ends.items t.end t.broken

-- a Paint with its piece
pub goes_some : (old new : PainterThread) (p : List ℕ) → old.broken ≡ false → PainterTurn (Ok (Some p)) old new
    → (b : Begun) (size : Size) (ps qs : List (List ℕ)) → qs ≡ ps ++ p ∷ [] → opened old.scribe ≡ b.state → Goes b size old ps → Goes b size new qs
goes_some old new p w t b size ps qs e i k =
    let d = t b size ps i (k.draws w) in
    let P : List (List ℕ) → Type 0 = λ x. Goes b size new x in
    subst P (sym e) (record { draws = λ f. d; less = drawn_less b (history new.scribe) size new.painter (ps ++ p ∷ []) new.ends.items new.end d })

-- none
pub goes_none : (old new : PainterThread) → old.broken ≡ false → PainterTurn (Ok None) old new → (b : Begun) (size : Size) (ps : List (List ℕ))
    → opened old.scribe ≡ b.state → Goes b size old ps → Goes b size new ps
goes_none old new w t b size ps i k =
    let d = t b size ps i (k.draws w) in record { draws = λ f. d; less = drawn_less b (history new.scribe) size new.painter ps new.ends.items new.end d }

-- there was no memory
pub goes_err : (old new : PainterThread) → old.broken ≡ false → new.broken ≡ true → Lessens old new → (b : Begun) (size : Size) (ps : List (List ℕ))
    → opened old.scribe ≡ b.state → Goes b size old ps → Goes b size new ps
goes_err old new w v t b size ps i k = record { draws = λ f. absurd (let z : true ≡ false = sym v ∙ f in cc); less = t b size ps i (k.draws w) }

pub same_in_then : (a b c : PipeIn) → IsSameIn a b → IsSameIn b c → IsSameIn a c
same_in_then a b c x y = ((y.0.0 ∙ x.0.0, y.0.1 ∙ x.0.1, y.0.2 ∙ x.0.2, y.0.3 ∙ x.0.3), y.1 ∙ x.1)

pub drawn_some : (first old new : PainterThread) (put1 put2 put3 : PipeIn) (p : List ℕ) → HasDrawn first old put1 put2 → old.broken ≡ false
    → IsSameScribe old.scribe new.scribe → IsPainterThread new → IsSameIn put2 put3 → pieces_put put3 ≡ pieces_put put2 ++ p ∷ []
    → PainterTurn (Ok (Some p)) old new → HasDrawn first new put1 put3
drawn_some first old new put1 put2 put3 p was w same is pipe put t = record {
  same = same_then first.scribe old.scribe new.scribe was.same same;
  is_painter = is;
  pipe = same_in_then put1 put2 put3 was.pipe pipe;
  drawn =
      λ b size i k.
      goes_some old new p w t b size (pieces_put put2) (pieces_put put3) put (same_opened first.scribe old.scribe was.same ∙ i) (was.drawn b size i k);
}

pub drawn_none : (first old new : PainterThread) (put1 put2 : PipeIn) → HasDrawn first old put1 put2 → old.broken ≡ false → IsSameScribe old.scribe new.scribe
    → IsPainterThread new → PainterTurn (Ok None) old new → HasDrawn first new put1 put2
drawn_none first old new put1 put2 was w same is t = record {
  same = same_then first.scribe old.scribe new.scribe was.same same;
  is_painter = is;
  pipe = was.pipe;
  drawn = λ b size i k. goes_none old new w t b size (pieces_put put2) (same_opened first.scribe old.scribe was.same ∙ i) (was.drawn b size i k);
}

pub drawn_err : (first old new : PainterThread) (put1 put2 : PipeIn) → HasDrawn first old put1 put2 → old.broken ≡ false → IsSameScribe old.scribe new.scribe
    → IsPainterThread new → new.broken ≡ true → Lessens old new → HasDrawn first new put1 put2
drawn_err first old new put1 put2 was w same is v t = record {
  same = same_then first.scribe old.scribe new.scribe was.same same;
  is_painter = is;
  pipe = was.pipe;
  drawn = λ b size i k. goes_err old new w v t b size (pieces_put put2) (same_opened first.scribe old.scribe was.same ∙ i) (was.drawn b size i k);
}

-- the pipe was finished
pub drawn_ended : (first new : PainterThread) (put1 put2 put3 : PipeIn) → HasDrawn first new put1 put2 → IsSameIn put2 put3 → pieces_put put3 ≡ pieces_put put2
    → HasDrawn first new put1 put3
drawn_ended first new put1 put2 put3 was pipe put = record {
  same = was.same;
  is_painter = was.is_painter;
  pipe = same_in_then put1 put2 put3 was.pipe pipe;
  drawn = λ b size i k. let P : List (List ℕ) → Type 0 = λ x. Goes b size new x in subst P (sym put) (was.drawn b size i k);
}

-- ---- a turn at the sink

-- there is no memory behind one
abbrev pub EndsTo : PainterThread → PainterThread → Option (List ℕ) → Option (List ℕ) → Type 0
EndsTo old new was now = (b : Begun) (size : Size) (before : Option (List ℕ)) (ps : List (List ℕ)) → opened old.scribe ≡ b.state
    → CanvasIs b (history old.scribe) size old.painter ps old.ends.items old.end before was false → CanvasEnds b (history new.scribe) size new.ends.items before now

pub paints_err : (result : Result (Option Bool) OutOfMemory) (old new : PainterThread) (was now : Option (List ℕ)) → IsErr result → EndsTo old new was now
    → PaintsTo result old new was now
paints_err (Ok x) old new was now i k = absurd (cc)
paints_err (Err e) old new was now i k = k

pub to_none : (old new : PainterThread) (was : Option (List ℕ)) → PainterTurn (Ok None) old new → PaintsTo (Ok None) old new was was
to_none old new was t = λ b size before ps i k. (
  ps,
  drawn_written b (history new.scribe) size new.painter ps new.ends.items new.end before was false
      (t b size ps i (written_drawn b (history old.scribe) size old.painter ps old.ends.items old.end before was false k)) k.written,
)

pub to_whole : (old new : PainterThread) (was now : Option (List ℕ)) (p slice : List ℕ) → slice ≡ p → PainterTurn (Ok (Some p)) old new
    → now ≡ then_written was slice → PaintsTo (Ok (Some false)) old new was now
to_whole old new was now p slice s t l = λ b size before ps i k. (
  ps ++ p ∷ [],
  drawn_written b (history new.scribe) size new.painter (ps ++ p ∷ []) new.ends.items new.end before now false
      (t b size ps i (written_drawn b (history old.scribe) size old.painter ps old.ends.items old.end before was false k))
      (written_whole before was now ps p slice s k.written l),
)

pub to_part : (old new : PainterThread) (was now : Option (List ℕ)) (p slice : List ℕ) → slice ≡ p → PainterTurn (Ok (Some p)) old new
    → WroteFront slice was now
    → PaintsTo (Ok (Some true)) old new was now
to_part old new was now p slice s t l = λ b size before ps i k. (
  ps ++ p ∷ [],
  drawn_written b (history new.scribe) size new.painter (ps ++ p ∷ []) new.ends.items new.end before now true
      (t b size ps i (written_drawn b (history old.scribe) size old.painter ps old.ends.items old.end before was false k))
      (written_part before was now ps p slice s k.written l),
)

pub to_broken : (old new : PainterThread) (was now : Option (List ℕ)) (p slice : List ℕ) → slice ≡ p → PainterTurn (Ok (Some p)) old new
    → WroteFront slice was now → EndsTo old new was now
to_broken old new was now p slice s t l = λ b size before ps i k.
    let q = to_part old new was now p slice s t l b size before ps i k in
    canvas_ends b (history new.scribe) size new.painter q.0 new.ends.items new.end before now true q.1

pub to_less : (old new : PainterThread) (was : Option (List ℕ)) → Lessens old new → EndsTo old new was was
to_less old new was t = λ b size before ps i k.
    less_written b (history new.scribe) size ps new.ends.items before was false
    (t b size ps i (written_drawn b (history old.scribe) size old.painter ps old.ends.items old.end before was false k)) k.written

-- a turn behind others
pub to_some : (first old new : PainterThread) (start was now : Option (List ℕ)) (f later : Bool) → f ≡ later → IsSameScribe first.scribe old.scribe
    → PaintsTo (Ok (Some false)) first old start was → PaintsTo (Ok (Some f)) old new was now → PaintsTo (Ok (Some later)) first new start now
to_some first old new start was now f later e same x y =
    let P : Bool → Type 0 = λ z. PaintsTo (Ok (Some z)) first new start now in
    let all : PaintsTo (Ok (Some f)) first new start now = λ b size before ps i k. let q = x b size before ps i k in
    y b size before q.0 (same_opened first.scribe old.scribe same ∙ i) q.1 in
    subst P e all

pub to_end : (first old new : PainterThread) (start was now : Option (List ℕ)) → IsSameScribe first.scribe old.scribe
    → PaintsTo (Ok (Some false)) first old start was → PaintsTo (Ok None) old new was now → PaintsTo (Ok None) first new start now
to_end first old new start was now same x y =
    λ b size before ps i k. let q = x b size before ps i k in y b size before q.0 (same_opened first.scribe old.scribe same ∙ i) q.1

pub to_ends : (first old new : PainterThread) (start was now : Option (List ℕ)) → IsSameScribe first.scribe old.scribe
    → PaintsTo (Ok (Some false)) first old start was → EndsTo old new was now → EndsTo first new start now
to_ends first old new start was now same x y =
    λ b size before ps i k. let q = x b size before ps i k in y b size before q.0 (same_opened first.scribe old.scribe same ∙ i) q.1

-- ---- the last Paints

fine : (b : Begun) (t : PainterThread) (size : Size) (before was : Option (List ℕ)) (ps : List (List ℕ)) (failed : Bool) → failed ≡ false
    → CanvasIs b (history t.scribe) size t.painter ps t.ends.items t.end before was failed
    → CanvasIs b (history t.scribe) size t.painter ps t.ends.items t.end before was false
fine b t size before was ps failed e k =
    let P : Bool → Type 0 = λ x. CanvasIs b (history t.scribe) size t.painter ps t.ends.items t.end before was x in subst P e k

pub finished_none : (old new : PainterThread) (was now : Option (List ℕ)) (failed : Bool) → failed ≡ false → PaintsTo (Ok None) old new was now
    → HasFinished (Ok false) old new was now failed
finished_none old new was now failed e t = λ b size before ps i k. t b size before ps i (fine b old size before was ps failed e k)

pub finished_some : (old new : PainterThread) (was now : Option (List ℕ)) (failed later : Bool) → failed ≡ false → PaintsTo (Ok (Some later)) old new was now
    → HasFinished (Ok later) old new was now failed
finished_some old new was now failed later e t = λ b size before ps i k. t b size before ps i (fine b old size before was ps failed e k)

pub finished_err : (result : Result Bool OutOfMemory) (old new : PainterThread) (was now : Option (List ℕ)) (failed : Bool) → IsErr result → failed ≡ false
    → EndsTo old new was now → HasFinished result old new was now failed
finished_err (Ok x) old new was now failed i e t = absurd (cc)
finished_err (Err x) old new was now failed i e t = λ b size before ps i' k. t b size before ps i' (fine b old size before was ps failed e k)

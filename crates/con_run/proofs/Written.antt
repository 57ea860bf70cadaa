-- What a writer wrote as it goes on taking, and what the pieces that were taken are of those that were put.
use Rattle.std.proofs.Common.{◌≡◌, ℕ, Bool, false, List, [], ◌∷◌, ◌++◌, length, Option, Some, refl, sym, ap, subst, arith}
use Rattle.std.specs.Prelude.{◌||◌}
use Rattle.std.proofs.Math.Seq.{take-length}
use Rattle.con_units.specs.declared.place.Size.{Size}
use Rattle.con_paint.specs.Painter.{Kept}
use Rattle.con_events.specs.declared.entry.Entry.{Entry}
use Rattle.con_laws.specs.Rounds.{Begun}
use Rattle.con_actors.specs.Painting.{CanvasIs, CanvasEnds, Written}
use Rattle.con_actors.specs.Words.Runs.{joined}
use Rattle.con_threads.specs.Painters.{Draws, DrawsLess}
use Rattle.con_threads.specs.Writers.{Writes}

-- it goes on taking
pub writes_on : (before was now : Option (List ℕ)) (ps qs : List (List ℕ)) (p : List ℕ) (failed broken failed' broken' : Bool) → qs ≡ ps ++ p ∷ []
    → (Writes before was ps failed broken → Writes before now (ps ++ p ∷ []) failed' broken') → Writes before was ps failed broken
    → Writes before now qs failed' broken'
writes_on before was now ps qs p failed broken failed' broken' e f w =
    let P : List (List ℕ) → Type 0 = λ x. Writes before now x failed' broken' in subst P (sym e) (f w)

pub writes_still : (before now : Option (List ℕ)) (ps qs : List (List ℕ)) (failed broken : Bool) → qs ≡ ps → Writes before now ps failed broken
    → Writes before now qs failed broken
writes_still before now ps qs failed broken e w = let P : List (List ℕ) → Type 0 = λ x. Writes before now x failed broken in subst P (sym e) w

-- ---- the pieces of a painter, written

-- all of them, to a sink that had nothing
pub all_written : (ps : List (List ℕ)) → Written (Some []) (Some (joined ps)) ps false
all_written ps =
    let n : ℕ = length (joined ps) in
    record { count = n; most = omega arith; front = ap (λ (x : List ℕ). Some x) (sym (take-length (joined ps))); whole = λ e. refl }

pub drawn_written : (b : Begun) (h : List Entry) (size : Size) (kept : Kept) (ps : List (List ℕ)) (ends : List ℕ) (end : ℕ) (before now : Option (List ℕ))
    (failed : Bool)
    → Draws b h size kept ps ends end → Written before now ps failed → CanvasIs b h size kept ps ends end before now failed
drawn_written b h size kept ps ends end before now failed k w = record { stands = k.stands; written = w; ends' = k.ends'; end' = k.end' }

pub written_drawn : (b : Begun) (h : List Entry) (size : Size) (kept : Kept) (ps : List (List ℕ)) (ends : List ℕ) (end : ℕ) (before now : Option (List ℕ))
    (failed : Bool)
    → CanvasIs b h size kept ps ends end before now failed → Draws b h size kept ps ends end
written_drawn b h size kept ps ends end before now failed k = record { stands = k.stands; written = all_written ps; ends' = k.ends'; end' = k.end' }

pub less_written : (b : Begun) (h : List Entry) (size : Size) (ps : List (List ℕ)) (ends : List ℕ) (before now : Option (List ℕ)) (failed : Bool)
    → DrawsLess b h size ps ends → Written before now ps failed → CanvasEnds b h size ends before now
less_written b h size ps ends before now failed k w =
    let P : List (List ℕ) → Type 0 = λ x. Written before now x failed in
    let c = k.canvas in
    record { pieces = c.pieces; each = c.each; ends' = c.ends'; count = c.count; failed = failed; written = subst P (sym k.pieces') w }

-- Behind a pipe whose pieces were all taken: what the painter put is written by the writer.
pub piped : (b : Begun) (h : List Entry) (size : Size) (kept : Kept) (put taken : List (List ℕ)) (ends : List ℕ) (end : ℕ) (before now : Option (List ℕ))
    (failed broken : Bool)
    → taken ≡ put
    → Draws b h size kept put ends end → Writes before now taken failed broken → CanvasIs b h size kept put ends end before now (failed || broken)
piped b h size kept put taken ends end before now failed broken e k w =
    let P : List (List ℕ) → Type 0 = λ x. Written before now x (failed || broken) in
    drawn_written b h size kept put ends end before now (failed || broken) k (subst P e w)

-- and where there was no memory
pub piped_less : (b : Begun) (h : List Entry) (size : Size) (put taken : List (List ℕ)) (ends : List ℕ) (before now : Option (List ℕ)) (failed broken : Bool)
    → taken ≡ put
    → DrawsLess b h size put ends → Writes before now taken failed broken → CanvasEnds b h size ends before now
piped_less b h size put taken ends before now failed broken e k w =
    let P : List (List ℕ) → Type 0 = λ x. Written before now x (failed || broken) in
    less_written b h size put ends before now (failed || broken) k (subst P e w)

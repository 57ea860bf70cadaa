use Rattle.std.proofs.Common.{ap, ◌∙◌, ℕ, ◌+◌, List, ◌∷◌, ◌++◌, []}
use Rattle.con_actors.specs.PaintTurns.{tied_count, tied_size, tied_rows}
use Rattle.con_threads.specs.Scribe.{opened, history}
use Rattle.con_threads.specs.ScribeLaws.{same_opened}
use Rattle.con_threads.proofs.Painting.{drawn_less, less_ends, turn_err, tied_from, rests_less, rests_tied, rests_drawn, tied_there, picture, paint_none, paint_tied, paint_drawn}
use Rattle.con_threads.proofs.painter.PainterThread.turn.Goals as goal

-- ---- nothing was entered

pub returns-then-is_err-clause-drew : goal.returns-then-is_err-clause-drew
returns-then-is_err-clause-drew g c = λ b size ps i k. less_ends b _ size ps _ _ c.reserve.ensures.items (drawn_less b _ size _ ps _ _ k)

pub returns-in_err-enter_if_ready-clause-drew : goal.returns-in_err-enter_if_ready-clause-drew
returns-in_err-enter_if_ready-clause-drew g c =
    turn_err _ _ _ c.from_residual.ensures.0
    (λ b size ps i k. rests_less _ _ _ _ c.requires.actor c.in_err-enter_if_ready.ensures.refused b size _ ps _ _ _ i c.reserve.ensures.items k)

pub returns-in-None-clause-tied : goal.returns-in-None-clause-tied
returns-in-None-clause-tied g c =
    let e = rw c.in-None.is at c.in_ok-enter_if_ready.ensures.blocked in
    tied_from (opened c.args.self.now.scribe) (opened c.enter_if_ready.new.self) (history c.enter_if_ready.new.self) c.args.self.now.painter
    (same_opened c.args.self.now.scribe c.enter_if_ready.new.self c.enter_if_ready.ensures.same)
    (rests_tied (opened c.args.self.now.scribe) _ (history c.args.self.now.scribe) (history c.enter_if_ready.new.self) c.args.self.now.painter c.requires.actor e.0 c.requires.tied)

pub returns-in-None-clause-drew : goal.returns-in-None-clause-drew
returns-in-None-clause-drew g c =
    let e = rw c.in-None.is at c.in_ok-enter_if_ready.ensures.blocked in
    λ b size ps i k. rests_drawn _ _ _ _ c.requires.actor e.0 b size _ ps _ _ _ i c.reserve.ensures.items k

-- ---- the picture

pub draw-requires-clause-marks : goal.draw-requires-clause-marks
draw-requires-clause-marks g c =
    let e = rw c.in-Some-Picture.is at c.in_ok-enter_if_ready.ensures.entered in
    let p = picture _ _ _ _ _ c.requires.actor e c.in-Some-Picture.picture c.in-Some-Picture.field-0-is in tied_count _ _ _ _ p.0 p.3

pub draw-requires-clause-size : goal.draw-requires-clause-size
draw-requires-clause-size g c =
    let e = rw c.in-Some-Picture.is at c.in_ok-enter_if_ready.ensures.entered in
    let p = picture _ _ _ _ _ c.requires.actor e c.in-Some-Picture.picture c.in-Some-Picture.field-0-is in
    λ f. tied_size _ _ _ _ (tied_there _ _ _ _ _ c.requires.actor e _ c.requires.tied) p.0 f

pub draw-requires-clause-marked : goal.draw-requires-clause-marked
draw-requires-clause-marked g c =
    let e = rw c.in-Some-Picture.is at c.in_ok-enter_if_ready.ensures.entered in
    let p = picture _ _ _ _ _ c.requires.actor e c.in-Some-Picture.picture c.in-Some-Picture.field-0-is in
    λ f y l n. tied_rows _ _ _ _ _ (tied_there _ _ _ _ _ c.requires.actor e _ c.requires.tied) p.0 p.3 f y l n

-- ---- its frame

pub returns-in_err-draw-in-Some-Picture-clause-drew : goal.returns-in_err-draw-in-Some-Picture-clause-drew
returns-in_err-draw-in-Some-Picture-clause-drew g c =
    let e = rw c.in-Some-Picture.is at c.in_ok-enter_if_ready.ensures.entered in
    turn_err _ _ _ c.from_residual-in_err-draw-in-Some-Picture.ensures.0
    (λ b size ps i k. paint_none _ _ _ _ _ c.requires.actor e b size _ ps _ _ _ i c.reserve.ensures.items k)

pub returns-in_err-end-in-Some-Picture-clause-drew : goal.returns-in_err-end-in-Some-Picture-clause-drew
returns-in_err-end-in-Some-Picture-clause-drew g c =
    let e = rw c.in-Some-Picture.is at c.in_ok-enter_if_ready.ensures.entered in
    turn_err _ _ _ c.from_residual-in_err-end-in-Some-Picture.ensures.0
    (λ b size ps i k. paint_none _ _ _ _ _ c.requires.actor e b size _ ps _ _ _ i c.reserve.ensures.items k)

pub returns-in_ok-end-in-Some-Picture-clause-tied : goal.returns-in_ok-end-in-Some-Picture-clause-tied
returns-in_ok-end-in-Some-Picture-clause-tied g c =
    let e = rw c.in-Some-Picture.is at c.in_ok-enter_if_ready.ensures.entered in
    tied_from (opened c.args.self.now.scribe) (opened c.enter_if_ready.new.self) (history c.enter_if_ready.new.self) c.draw.new.painter
    (same_opened c.args.self.now.scribe c.enter_if_ready.new.self c.enter_if_ready.ensures.same)
    (paint_tied (opened c.args.self.now.scribe) _ _ (history c.args.self.now.scribe) (history c.enter_if_ready.new.self) c.requires.actor e c.in-Some-Picture.picture c.draw.new.painter c.in-Some-Picture.field-0-is c.in_ok-draw-in-Some-Picture.ensures.shown c.in_ok-draw-in-Some-Picture.ensures.size)

pub returns-in_ok-end-in-Some-Picture-clause-drew : goal.returns-in_ok-end-in-Some-Picture-clause-drew
returns-in_ok-end-in-Some-Picture-clause-drew g c =
    let e = rw c.in-Some-Picture.is at c.in_ok-enter_if_ready.ensures.entered in
    λ b size ps i k. paint_drawn _ _ _ _ _ c.requires.actor e c.in-Some-Picture.picture c.in-Some-Picture.field-0-is b size _ _ ps _ _ _ _ _ i
    c.in_ok-draw-in-Some-Picture.ensures.paints c.in_ok-draw-in-Some-Picture.ensures.shown c.in_ok-draw-in-Some-Picture.ensures.size
    (c.in_ok-end-in-Some-Picture.ensures ∙ ap (λ (n : ℕ). c.args.self.now.end + n) c.frame_length.ensures)
    (c.push_reserved.ensures.items ∙ ap (λ (x : List ℕ). x ++ c.in_ok-end-in-Some-Picture.end ∷ []) c.reserve.ensures.items) k

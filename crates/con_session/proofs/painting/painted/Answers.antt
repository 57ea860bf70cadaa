use Rattle.std.proofs.Common.{◌≡◌, true, false, sym, ap, ◌∙◌, refl, inl, inr, ◌++◌, ◌∷◌, [], List, ℕ, ◌+◌}
use Rattle.con_actors.specs.CanvasLaws.{canvas_ok, canvas_failed, canvas_ends, canvas_none, canvas_rests, ends_as}
use Rattle.con_actors.specs.PaintTurns.{tied_count, tied_size, tied_rows, paints_now, failed_rests, unready_rests}
use Rattle.con_actors.specs.TiedLaws.{served_paint, served_still, tied_paint}
use Rattle.con_session.proofs.Hearing.{paint_lacks}
use Rattle.con_session.proofs.painting.painted.Goals as goal

pub draw-requires-clause-marks : goal.draw-requires-clause-marks
draw-requires-clause-marks g c = tied_count _ _ _ _ c.in_ok-picture.ensures.pictures c.in_ok-picture.ensures.marks

pub draw-requires-clause-size : goal.draw-requires-clause-size
draw-requires-clause-size g c = λ f. tied_size _ _ _ _ c.requires c.in_ok-picture.ensures.pictures f

pub draw-requires-clause-marked : goal.draw-requires-clause-marked
draw-requires-clause-marked g c = λ f y l n. tied_rows _ _ _ _ _ c.requires c.in_ok-picture.ensures.pictures c.in_ok-picture.ensures.marks f y l n

pub returns-then-canvas-clause-acts : goal.returns-then-canvas-clause-acts
returns-then-canvas-clause-acts g c = λ b i f. failed_rests b _ _ f c.if-canvas.true

pub returns-then-not-ready-clause-acts : goal.returns-then-not-ready-clause-acts
returns-then-not-ready-clause-acts g c = λ b i f. unready_rests b _ _ i (sym c.if-not-ready.ensures)

pub returns-in_err-draw-clause-turn : goal.returns-in_err-draw-clause-turn
returns-in_err-draw-clause-turn g c = λ b size before ps i k. paint_lacks b _ _ _ _ _ _ _ _ _ _ _ _ _ _ _ c.from_residual-in_err-draw.ensures.0
    (inr (record { enters = c.in_ok-picture.ensures.entered; ready = sym c.if-not-ready.ensures })) _ c.reserve.ensures.items
    (canvas_none b _ _ _ _ _ _ _ _ _ _ c.in_ok-picture.ensures.entered.entries k)

pub returns-in_err-end-clause-turn : goal.returns-in_err-end-clause-turn
returns-in_err-end-clause-turn g c = λ b size before ps i k. paint_lacks b _ _ _ _ _ _ _ _ _ _ _ _ _ _ _ c.from_residual-in_err-end.ensures.0
    (inr (record { enters = c.in_ok-picture.ensures.entered; ready = sym c.if-not-ready.ensures })) _ c.reserve.ensures.items
    (canvas_none b _ _ _ _ _ _ _ _ _ _ c.in_ok-picture.ensures.entered.entries k)

pub returns-in-Ok : goal.returns-in-Ok
returns-in-Ok g c = record {
  pictured = (
    c.in_ok-picture.ensures.pictures,
    c.in_ok-picture.ensures.whole,
    record { enters = c.in_ok-picture.ensures.entered; ready = sym c.if-not-ready.ensures },
  );
  marks = c.in_ok-picture.ensures.marks;
  served = inl (served_paint _ _ _ _ _ _ c.in_ok-picture.ensures.entered);
  tied = tied_paint _ _ _ _ _ _ c.in_ok-picture.picture.view c.in_ok-picture.picture.fresh _ c.in_ok-picture.ensures.entered
      c.in_ok-picture.ensures.pictures c.in_ok-draw.ensures.shown c.in_ok-draw.ensures.size;
  fails = c.if-canvas.false;
  still = λ e. absurd (let z : false ≡ true = sym c.if-canvas.false ∙ e in cc);
  failed = λ e. inl e;
  never_falls = c.in-Ok.ensures.never_falls;
  acts = λ b i f. paints_now b _ _ _ i f c.if-canvas.false (sym c.if-not-ready.ensures);
  turn = λ b size before ps i k. (
    record { enters = c.in_ok-picture.ensures.entered; ready = sym c.if-not-ready.ensures },
    (
      c.draw.new.out.items,
      canvas_ok b size before _ _ _ _ ps _ _ _ c.in_ok-picture.picture.view c.in_ok-picture.picture.fresh _ c.draw.new.out.items _ _ _ _ _
          c.if-canvas.false i c.in_ok-picture.ensures.entered.entries c.in_ok-picture.ensures.pictures
          c.in_ok-draw.ensures.paints c.in_ok-draw.ensures.shown c.in_ok-draw.ensures.size c.as_slice.ensures.value c.in-Ok.ensures.whole
          (c.in_ok-end.ensures ∙ ap (λ (n : ℕ). c.args.canvas.now.end + n) c.frame_length.ensures) k
          (c.push_reserved.ensures.items ∙ ap (λ (x : List ℕ). x ++ c.in_ok-end.end ∷ []) c.reserve.ensures.items),
    ),
  );
}

pub returns-in-Err-Failed : goal.returns-in-Err-Failed
returns-in-Err-Failed g c = record {
  pictured = (
    c.in_ok-picture.ensures.pictures,
    c.in_ok-picture.ensures.whole,
    record { enters = c.in_ok-picture.ensures.entered; ready = sym c.if-not-ready.ensures },
  );
  marks = c.in_ok-picture.ensures.marks;
  served = inl (served_paint _ _ _ _ _ _ c.in_ok-picture.ensures.entered);
  tied = tied_paint _ _ _ _ _ _ c.in_ok-picture.picture.view c.in_ok-picture.picture.fresh _ c.in_ok-picture.ensures.entered
      c.in_ok-picture.ensures.pictures c.in_ok-draw.ensures.shown c.in_ok-draw.ensures.size;
  fails = c.if-canvas.false;
  still = λ e. absurd (let z : false ≡ true = sym c.if-canvas.false ∙ e in cc);
  failed = λ e. inr (let q = c.in-Err-Failed.field-0-is in c.in-Err-Failed.ensures.failed cc);
  never_falls = c.write_whole.ensures.never_falls;
  acts = λ b i f. paints_now b _ _ _ i f c.if-canvas.false (sym c.if-not-ready.ensures);
  turn = λ b size before ps i k. (
    record { enters = c.in_ok-picture.ensures.entered; ready = sym c.if-not-ready.ensures },
    (
      c.draw.new.out.items,
      canvas_failed b size before _ _ _ _ ps _ _ _ c.in_ok-picture.picture.view c.in_ok-picture.picture.fresh _ c.draw.new.out.items _ _ _ _ _
          c.if-canvas.false i c.in_ok-picture.ensures.entered.entries c.in_ok-picture.ensures.pictures
          c.in_ok-draw.ensures.paints c.in_ok-draw.ensures.shown c.in_ok-draw.ensures.size c.as_slice.ensures.value c.write_whole.ensures.front
          (c.in_ok-end.ensures ∙ ap (λ (n : ℕ). c.args.canvas.now.end + n) c.frame_length.ensures) k
          (c.push_reserved.ensures.items ∙ ap (λ (x : List ℕ). x ++ c.in_ok-end.end ∷ []) c.reserve.ensures.items),
    ),
  );
}

pub returns-in-Err-OutOfMemory-clause-turn : goal.returns-in-Err-OutOfMemory-clause-turn
returns-in-Err-OutOfMemory-clause-turn g c = λ b size before ps i k. (
  inr (record { enters = c.in_ok-picture.ensures.entered; ready = sym c.if-not-ready.ensures }),
  canvas_ends b _ size _ _ _ _ before _ _ (canvas_failed b size before _ _ _ _ ps _ _ _ c.in_ok-picture.picture.view c.in_ok-picture.picture.fresh _
      c.draw.new.out.items _ _ _ _ _ c.if-canvas.false i c.in_ok-picture.ensures.entered.entries c.in_ok-picture.ensures.pictures
      c.in_ok-draw.ensures.paints c.in_ok-draw.ensures.shown c.in_ok-draw.ensures.size c.as_slice.ensures.value c.write_whole.ensures.front
      (c.in_ok-end.ensures ∙ ap (λ (n : ℕ). c.args.canvas.now.end + n) c.frame_length.ensures) k
      (c.push_reserved.ensures.items ∙ ap (λ (x : List ℕ). x ++ c.in_ok-end.end ∷ []) c.reserve.ensures.items)),
)

pub returns-then-not-ready-clause-served : goal.returns-then-not-ready-clause-served
returns-then-not-ready-clause-served g c = inl (served_still _ (sym c.if-not-ready.ensures))

pub returns-then-is_err-clause-turn : goal.returns-then-is_err-clause-turn
returns-then-is_err-clause-turn g c = λ b size before ps i k. (
  inl (record { state = refl; entries = refl; replies = refl }),
  ends_as b _ size _ _ before _ c.reserve.ensures.items (canvas_ends b _ size _ _ _ _ before _ _ k),
)

pub returns-in_err-picture-clause-turn : goal.returns-in_err-picture-clause-turn
returns-in_err-picture-clause-turn g c = λ b size before ps i k. paint_lacks b _ _ _ _ _ _ _ _ _ _ _ _ _ _ _ c.from_residual.ensures.0
    (inl c.in_err-picture.ensures.same) _ c.reserve.ensures.items (canvas_rests b _ _ _ _ _ _ size _ _ _ _ before _ _ c.in_err-picture.ensures.same k)

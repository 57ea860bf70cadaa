use Rattle.std.proofs.Common.{[], refl, inl, inr, arith, rules}
use Rattle.con_outside.specs.Laws.{then_left-none}
use Rattle.con_outside.specs.Outside.{WrotePart}
use Rattle.con_text.proofs.Types.{frame_is}
use Rattle.con_text.proofs.typing.host_type.Goals as goal

pub returns-in_default-clause-outcome : goal.returns-in_default-clause-outcome
returns-in_default-clause-outcome g c = ([], then_left-none _, inl (refl, refl, refl, omega arith))

pub returns-in-Failed-clause-outcome : goal.returns-in-Failed-clause-outcome
returns-in-Failed-clause-outcome g c =
    let t = c.in-Failed.ensures.taken in
    (t.0, t.1, inr (inr (refl, inl (t.2, c.close.ensures.tells))))

pub returns-in-TooLong-clause-outcome : goal.returns-in-TooLong-clause-outcome
returns-in-TooLong-clause-outcome g c =
    let t = c.in-TooLong.ensures.taken in
    (t.0, t.1, inr (inr (refl, inr (t.2, c.close-in-TooLong.ensures.tells))))

pub returns-in-Memory-clause-outcome : goal.returns-in-Memory-clause-outcome
returns-in-Memory-clause-outcome g c =
    let t = c.in-Memory.ensures.taken in
    (t.0, t.1, inl (refl, refl, refl, t.2))

pub returns-in_default-end-clause-outcome : goal.returns-in_default-end-clause-outcome
returns-in_default-end-clause-outcome g c =
    let t = c.in-End.ensures.taken in
    (t.0, t.1, inl (refl, refl, refl, (let few = t.2.0 in omega arith)))

pub returns-in-Ok-write_whole-clause-outcome : goal.returns-in-Ok-write_whole-clause-outcome
returns-in-Ok-write_whole-clause-outcome g c =
    let t = c.in-End.ensures.taken in
    let frame = frame_is t.0 _ c.read_link.new.listener _ c.as_slice.result.now c.in-Ok.ensures (t.3 (λ e. cc)) c.as_slice.ensures.value c.in-Ok-end.ensures.shows c.in-Ok-end.ensures.few in
    (t.0, t.1, inr (inl (t.2, (c.as_slice.result.now, frame, inl (refl, c.in-Ok-write_whole.ensures.whole, refl)))))

pub returns-in-Err-Failed-clause-outcome : goal.returns-in-Err-Failed-clause-outcome
returns-in-Err-Failed-clause-outcome g c =
    let t = c.in-End.ensures.taken in
    let frame = frame_is t.0 _ c.read_link.new.listener _ c.as_slice.result.now c.in-Ok.ensures (t.3 (λ e. cc)) c.as_slice.ensures.value c.in-Ok-end.ensures.shows c.in-Ok-end.ensures.few in
    (t.0, t.1, inr (inl (t.2, (c.as_slice.result.now, frame, inr (c.in-Err-Failed.ensures.part, inr c.close-in-Err-Failed.ensures.tells)))))

pub returns-clause-outcome : goal.returns-clause-outcome
returns-clause-outcome g c =
    let t = c.in-End.ensures.taken in
    let part : WrotePart c.as_slice.result.now (g.O.Sink.written c.args.term.now) (g.O.Sink.written c.write_whole.new.sink) = search rules in
    let frame = frame_is t.0 _ c.read_link.new.listener _ c.as_slice.result.now c.in-Ok.ensures (t.3 (λ e. cc)) c.as_slice.ensures.value c.in-Ok-end.ensures.shows c.in-Ok-end.ensures.few in
    (t.0, t.1, inr (inl (t.2, (c.as_slice.result.now, frame, inr (part, inl (refl, refl))))))

use Rattle.std.proofs.Common.{◌≡◌, ◌∙◌, [], refl, ap, subst, inl, inr, arith}
use Rattle.con_outside.specs.Laws.{then_left-none}
use Rattle.con_term.specs.Terminal.{Terminal}
use Rattle.con_term.specs.Play.{play}
use Rattle.con_ending.specs.Laws.{lost_by, never_after, reported_of}
use Rattle.con_text.specs.Words.Playing.{dump_bytes}
use Rattle.con_text.proofs.playing.host_play.Goals as goal

pub returns-in_default-clause-outcome : goal.returns-in_default-clause-outcome
returns-in_default-clause-outcome g c = ([], then_left-none _, inl (refl, refl, omega arith))

pub returns-in-Failed-clause-outcome : goal.returns-in-Failed-clause-outcome
returns-in-Failed-clause-outcome g c =
    let t = c.in-Failed.ensures.taken in
    (t.0, t.1, inr (inr (inl (t.2, c.close.ensures.tells))))

pub returns-in-TooLong-clause-outcome : goal.returns-in-TooLong-clause-outcome
returns-in-TooLong-clause-outcome g c =
    let t = c.in-TooLong.ensures.taken in
    (t.0, t.1, inr (inr (inr (t.2, c.close-in-TooLong.ensures.tells))))

pub returns-in-Memory-clause-outcome : goal.returns-in-Memory-clause-outcome
returns-in-Memory-clause-outcome g c =
    let t = c.in-Memory.ensures.taken in
    (t.0, t.1, inl (refl, refl, t.2))

pub returns-in_default-dumped-clause-outcome : goal.returns-in_default-dumped-clause-outcome
returns-in_default-dumped-clause-outcome g c =
    let t = c.in-End.ensures.taken in
    (t.0, t.1, inl (refl, refl, (let few = t.2.0 in omega arith)))

pub returns-clause-outcome : goal.returns-clause-outcome
returns-clause-outcome g c =
    let t = c.in-End.ensures.taken in
    let played = subst (λ (s : Terminal). c.read_link.new.listener ≡ play s t.0) c.in-Ok.ensures.blank (t.3 (λ e. cc)) in
    let same = c.as_slice.ensures.value ∙ (c.in-Ok-dumped.ensures ∙ ap (λ (s : Terminal). dump_bytes s.page) played) in
    let wrote = c.write_whole.ensures in
    (t.0, t.1, inr (inl (t.2, reported_of c.write_whole.result c.status_after.result 0 c.as_slice.result.now _ (g.R.Sink.written c.args.report.now) (g.R.Sink.written c.write_whole.new.sink) _ same c.status_after.ensures wrote.whole wrote.part wrote.failed)))

pub returns-clause-link_failed : goal.returns-clause-link_failed
returns-clause-link_failed g c e = absurd (never_after c.write_whole.result _ 4 c.status_after.ensures e (omega arith) (omega arith) (omega arith))

pub returns-clause-report_failed : goal.returns-clause-report_failed
returns-clause-report_failed g c e = lost_by c.write_whole.result _ _ c.status_after.ensures c.write_whole.ensures.failed e

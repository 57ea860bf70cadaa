use Rattle.std.proofs.Common.{ap, ◌∙◌, refl, inl, inr, arith}
use Rattle.std.specs.Prelude.{Err}
use Rattle.con_ending.specs.Laws.{lost_by, never_after, reported_of}
use Rattle.con_sessions.proofs.Generations.{part_is, whole_is}
use Rattle.con_sessions.proofs.generating.host_gen.Goals as goal

pub returns-in_default-clause-outcome : goal.returns-in_default-clause-outcome
returns-in_default-clause-outcome g c = inl (refl, refl, refl)

pub returns-in-Err-Failed-clause-outcome : goal.returns-in-Err-Failed-clause-outcome
returns-in-Err-Failed-clause-outcome g c =
    let made = c.in-Ok.ensures in
    inr (made.0, inr (part_is _ _ _ _ (c.as_slice.ensures.value ∙ made.1) c.in-Err-Failed.ensures.part, inr c.close.ensures.tells))

pub returns-in-Err-Failed-clause-term_failed : goal.returns-in-Err-Failed-clause-term_failed
returns-in-Err-Failed-clause-term_failed g c e = c.write_whole.ensures.failed (c.in-Err-Failed.is ∙ ap Err c.in-Err-Failed.field-0-is)

pub returns-in-Err-OutOfMemory-clause-outcome : goal.returns-in-Err-OutOfMemory-clause-outcome
returns-in-Err-OutOfMemory-clause-outcome g c =
    let made = c.in-Ok.ensures in
    inr (made.0, inr (part_is _ _ _ _ (c.as_slice.ensures.value ∙ made.1) c.in-Err-OutOfMemory.ensures.part, inl (refl, refl)))

pub returns-clause-outcome : goal.returns-clause-outcome
returns-clause-outcome g c =
    let made = c.in-Ok.ensures in
    let same = c.as_slice-2.ensures.value ∙ made.2 in
    let wrote = c.write_whole-2.ensures in
    let told = reported_of c.write_whole-2.result c.status_after.result 0 c.as_slice-2.result.now _ (g.R.Sink.written c.args.report.now) (g.R.Sink.written c.write_whole-2.new.sink) _ same c.status_after.ensures wrote.whole wrote.part wrote.failed in
    inr (made.0, inl (whole_is _ _ _ _ (c.as_slice.ensures.value ∙ made.1) c.in-Ok-write_whole.ensures.whole, told))

pub returns-clause-term_failed : goal.returns-clause-term_failed
returns-clause-term_failed g c e = absurd (never_after c.write_whole-2.result _ 5 c.status_after.ensures e (omega arith) (omega arith) (omega arith))

pub returns-clause-report_failed : goal.returns-clause-report_failed
returns-clause-report_failed g c e = lost_by c.write_whole-2.result _ _ c.status_after.ensures c.write_whole-2.ensures.failed e

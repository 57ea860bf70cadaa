-- What is behind is the same as well.
use Rattle.con_paint.proofs.SpanLemmas.{later_same}
use Rattle.con_paint.proofs.span.end.Goals as goal

pub returns-then-known-clause-same : goal.returns-then-known-clause-same
returns-then-known-clause-same c = λ k. later_same c.args.row.now c.args.was.now c.end_of_differences.result c.moved_on.result c.moved_on.ensures.inside.0 c.end_of_differences.ensures.same

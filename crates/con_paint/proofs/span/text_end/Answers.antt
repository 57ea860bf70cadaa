-- What is behind is blank as well.
use Rattle.con_paint.proofs.SpanLemmas.{later_blank}
use Rattle.con_paint.proofs.span.text_end.Goals as goal

pub returns-clause-blank : goal.returns-clause-blank
returns-clause-blank c = later_blank c.args.row.now c.end_of_text.result c.moved_on.result c.moved_on.ensures.inside.0 c.end_of_text.ensures.blank

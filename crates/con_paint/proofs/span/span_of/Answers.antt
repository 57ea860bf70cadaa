-- The columns before and behind are the same.
use Rattle.con_paint.proofs.SpanLemmas.{span_kept, span_erased, front_same, back_same}
use Rattle.con_paint.proofs.span.span_of.Goals as goal

pub returns-then-end-text-gt3-clause-whole : goal.returns-then-end-text-gt3-clause-whole
returns-then-end-text-gt3-clause-whole c = λ now n e. span_erased now c.args.row.now c.begin-from.result c.text_end-text.result n c.text_end-text.ensures.inside.0 c.text_end-text.ensures.inside.1
    (front_same c.args.known c.begin-from.result c.args.row.now c.args.was.now now c.begin-from.ensures.same c.begin-from.ensures.none e) c.text_end-text.ensures.blank

pub returns-else-text-end-clause-whole : goal.returns-else-text-end-clause-whole
returns-else-text-end-clause-whole c = λ now n e. span_kept now c.args.row.now c.begin-from.result c.end-end.result n c.end-end.ensures.inside.0 c.end-end.ensures.inside.1
    (front_same c.args.known c.begin-from.result c.args.row.now c.args.was.now now c.begin-from.ensures.same c.begin-from.ensures.none e) (back_same c.args.known c.end-end.result c.args.row.now c.args.was.now now n c.end-end.ensures.same c.end-end.ensures.whole e)

pub returns-then-end-text-gt3-clause-front : goal.returns-then-end-text-gt3-clause-front
returns-then-end-text-gt3-clause-front c = λ now n e. front_same c.args.known c.begin-from.result c.args.row.now c.args.was.now now c.begin-from.ensures.same c.begin-from.ensures.none e

pub returns-else-text-end-clause-front : goal.returns-else-text-end-clause-front
returns-else-text-end-clause-front c = λ now n e. front_same c.args.known c.begin-from.result c.args.row.now c.args.was.now now c.begin-from.ensures.same c.begin-from.ensures.none e

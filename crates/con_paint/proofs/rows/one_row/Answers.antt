-- A span, and then its bytes.
use Rattle.std.proofs.Common.{length}
use Rattle.con_units.specs.View.{row_of}
use Rattle.con_paint.proofs.FrameLemmas.{stands_row}
use Rattle.con_paint.proofs.rows.one_row.Goals as goal

pub returns-clause-step : goal.returns-clause-step
returns-clause-step c = rw c.if-not-paint.false (λ h s st at lt e.
    let long = stands_row (length c.args.row.now) h c.args.y c.args.before.attr s st lt in
    c.line.ensures.painted h s st at lt e (c.span_of-span.ensures.front (row_of (length c.args.row.now) s.cells c.args.y) long e) (c.span_of-span.ensures.whole (row_of (length c.args.row.now) s.cells c.args.y) long e))

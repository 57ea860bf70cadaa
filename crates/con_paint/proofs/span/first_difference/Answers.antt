-- One more cell.
use Rattle.std.proofs.Common.{arith}
use Rattle.con_paint.proofs.SpanLemmas.{take_same_more}
use Rattle.con_paint.proofs.span.first_difference.Goals as goal

pub loop-i-preserved : goal.loop-i-preserved
loop-i-preserved c = take_same_more c.args.row.now c.args.was.now c.loop-i.i _ _ c.is_same.result (omega arith) c.requires.lengths c.index-row-i.is c.index-was-i.is c.loop-i.invariant c.is_same.ensures c.if-not-is_same.false

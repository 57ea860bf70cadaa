-- One more cell.
use Rattle.std.proofs.Common.{arith}
use Rattle.con_paint.proofs.ColumnLemmas.{blank_run_more}
use Rattle.con_paint.proofs.columns.blanks_from.Goals as goal

pub loop-n-preserved : goal.loop-n-preserved
loop-n-preserved c = blank_run_more c.args.row.now c.args.x c.loop-n.n _ c.is_same.result (omega arith) c.index-row-x.is c.loop-n.invariant (rw c.blank-blank.ensures at c.is_same.ensures) c.if-not-is_same.false

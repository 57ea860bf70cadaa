use Rattle.con_mirror.proofs.RowLemmas.{blank_more, blank_end}
use Rattle.std.proofs.Common.{arith}
use Rattle.con_mirror.proofs.part.are_blank.Goals as goal

pub loop-x-preserved : goal.loop-x-preserved
loop-x-preserved c = blank_more c.args.cells.now c.loop-x.x c.index-cells-x.result c.blank-blank.result c.loop-x-test.true c.index-cells-x.is (c.is_same.ensures c.if-not-is_same.false) c.blank-blank.ensures c.loop-x.invariant

pub returns : goal.returns
returns c = λ e. blank_end c.args.cells.now c.loop-x.x (omega arith) c.loop-x.invariant

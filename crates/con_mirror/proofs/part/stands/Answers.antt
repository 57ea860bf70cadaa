use Rattle.con_mirror.proofs.RowLemmas.{blank_rest, stands_long, stands_short}
use Rattle.std.proofs.Common.{length, arith}
use Rattle.con_mirror.proofs.part.stands.Goals as goal

pub returns-then-cells-n : goal.returns-then-cells-n
returns-then-cells-n c = λ e. stands_long c.args.cells.now c.args.row.now (omega arith) (c.are_same.ensures e)

pub returns : goal.returns
returns c = λ e. stands_short c.args.cells.now c.args.row.now (omega arith) (c.are_same-2.ensures c.if-not-are_same.false) (blank_rest c.args.cells.now (length c.args.row.now) (c.are_blank.ensures e))

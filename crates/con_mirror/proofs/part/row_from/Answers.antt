use Rattle.std.proofs.Common.{arith}
use Rattle.con_mirror.proofs.RowLemmas.{row_is}
use Rattle.con_mirror.proofs.part.row_from.Goals as goal

pub returns : goal.returns
returns c = rw c.as_slice.ensures (row_is c.args.view.now.rows c.args.view.now.size.w c.args.left c.args.y (omega arith))

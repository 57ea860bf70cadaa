use Rattle.std.proofs.Common.{arith}
use Rattle.con_mirror.proofs.RowLemmas.{put_more}
use Rattle.con_mirror.proofs.part.put_row.Goals as goal

pub loop-x-preserved : goal.loop-x-preserved
loop-x-preserved c = put_more c.args.cells.now c.args.row.now c.loop-x.cells c.args.at c.args.n c.loop-x.x c.cell_or_blank.result
    (omega (arith, c.loop-x-test.true)) c.requires c.loop-x.invariant c.cell_or_blank.ensures

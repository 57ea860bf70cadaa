use Rattle.std.proofs.Common.{arith}
use Rattle.con_screens.proofs.ViewLemmas.{read_on}
use Rattle.con_screens.proofs.view.read_row.Goals as goal

pub loop-x-preserved : goal.loop-x-preserved
loop-x-preserved c = read_on c.args.grid.now.cells c.args.cells.now c.loop-x.cells c.args.at c.args.from c.args.n c.loop-x.x c.at.result (omega (arith, c.loop-x-test.true)) c.requires.inside c.requires.room c.at.ensures c.loop-x.invariant

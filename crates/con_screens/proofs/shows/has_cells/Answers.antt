use Rattle.con_screens.proofs.ShowsLemmas.{same_more}
use Rattle.con_screens.proofs.shows.has_cells.Goals as goal

pub loop-x-preserved : goal.loop-x-preserved
loop-x-preserved c = same_more c.args.grid.now.cells c.args.cells.now c.args.at c.loop-x.x c.at.result c.index-cells-x.result c.at.ensures c.index-cells-x.is (c.is_same.ensures.0 c.if-not-is_same.false) c.requires.inside c.loop-x-test.true c.loop-x.invariant

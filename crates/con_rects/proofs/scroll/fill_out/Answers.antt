use Rattle.std.proofs.Common.{sym}
use Rattle.con_rects.proofs.MoveLemmas.{free_none}
use Rattle.con_rects.proofs.scroll.fill_out.Goals as goal

pub returns-else-has_cells-clause-grid : goal.returns-else-has_cells-clause-grid
returns-else-has_cells-clause-grid c = free_none c.args.grid.now c.args.from.now c.args.to.now c.args.fill c.size-size.ensures.picture (sym c.if-has_cells.ensures)

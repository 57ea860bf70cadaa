use Rattle.std.proofs.Common.{sym}
use Rattle.con_rects.proofs.MoveLemmas.{move_none}
use Rattle.con_rects.proofs.scroll.move_into.Goals as goal

pub returns-else-has_cells-clause-grid : goal.returns-else-has_cells-clause-grid
returns-else-has_cells-clause-grid c = move_none c.args.grid.now c.args.to.now c.args.shift.now c.size-size.ensures.picture (sym c.if-has_cells.ensures)

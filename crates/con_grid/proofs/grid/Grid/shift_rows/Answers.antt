use Rattle.std.proofs.Common.{rules}
use Rattle.con_grid.proofs.grid.Grid.shift_rows.Goals as goal

pub returns-then-by-lt0-clause-grid : goal.returns-then-by-lt0-clause-grid
returns-then-by-lt0-clause-grid c = search rules

pub returns-else-by-lt0-clause-grid : goal.returns-else-by-lt0-clause-grid
returns-else-by-lt0-clause-grid c = search rules

use Rattle.std.proofs.Common.{rules}
use Rattle.con_grid.proofs.grid.Grid.stamp.Goals as goal

pub returns-clause-untouched : goal.returns-clause-untouched
returns-clause-untouched c = search rules

use Rattle.std.proofs.Common.{rules}
use Rattle.con_grid.proofs.grid.Grid.place.Goals as goal

pub returns-clause-place : goal.returns-clause-place
returns-clause-place c = search rules

pub returns-clause-inside : goal.returns-clause-inside
returns-clause-inside c = search rules

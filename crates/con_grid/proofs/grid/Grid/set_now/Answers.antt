use Rattle.std.proofs.Common.{rules}
use Rattle.con_grid.specs.Inside.{picture_of}
use Rattle.con_grid.proofs.StampLemmas.{number_keeps}
use Rattle.con_grid.proofs.grid.Grid.set_now.Goals as goal

pub invariant_of-self : goal.invariant_of-self
invariant_of-self c = search rules

pub returns-clause-grid : goal.returns-clause-grid
returns-clause-grid c = search rules

use Rattle.std.proofs.Common.{refl}
use Rattle.con_handles.specs.Handles.{free_from}
use Rattle.tests_input.proofs.owners.rows.handles_are_taken_from_the_least_on.Goals as goal

pub returns-clause-taken : goal.returns-clause-taken
unfolding free_from
returns-clause-taken c main = refl

pub returns-clause-none : goal.returns-clause-none
unfolding free_from
returns-clause-none c main = refl

pub returns-clause-other : goal.returns-clause-other
unfolding free_from
returns-clause-other c main = refl

use Rattle.std.proofs.Common.{refl}
use Rattle.con_units.specs.Stored.{is_shown}
use Rattle.tests_screens.proofs.values.numbers_are_those_of_the_table.Goals as goal

pub returns-clause-unit : goal.returns-clause-unit
unfolding is_shown
returns-clause-unit c = refl

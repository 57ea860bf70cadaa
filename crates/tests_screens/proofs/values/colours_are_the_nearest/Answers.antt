use Rattle.std.proofs.Common.{refl}
use Rattle.con_units.specs.Shade.{near}
use Rattle.tests_screens.proofs.values.colours_are_the_nearest.Goals as goal

pub returns : goal.returns
unfolding near
returns c = refl

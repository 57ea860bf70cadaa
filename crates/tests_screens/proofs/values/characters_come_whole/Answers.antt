use Rattle.std.proofs.Common.{refl}
use Rattle.con_units.specs.Split.{next, split_after}
use Rattle.tests_screens.proofs.values.characters_come_whole.Goals as goal

pub returns-clause-first : goal.returns-clause-first
unfolding next split_after
returns-clause-first c = refl

pub returns-clause-second : goal.returns-clause-second
unfolding next split_after
returns-clause-second c = refl

pub returns-clause-euro : goal.returns-clause-euro
unfolding next split_after
returns-clause-euro c = refl

pub returns-clause-broken : goal.returns-clause-broken
unfolding next split_after
returns-clause-broken c = refl

pub returns-clause-held : goal.returns-clause-held
unfolding next split_after
returns-clause-held c = refl

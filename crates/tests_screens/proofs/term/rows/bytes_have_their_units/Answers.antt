use Rattle.std.proofs.Common.{refl}
use Rattle.con_units.specs.Split.{next, split_after}
use Rattle.con_term.specs.Play.{units_of}
use Rattle.tests_screens.proofs.term.rows.bytes_have_their_units.Goals as goal

pub returns-clause-front : goal.returns-clause-front
unfolding next split_after units_of
returns-clause-front c = refl

pub returns-clause-chunk : goal.returns-clause-chunk
unfolding next split_after units_of
returns-clause-chunk c = refl

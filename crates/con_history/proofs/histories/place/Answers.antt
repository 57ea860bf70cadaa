use Rattle.con_history.proofs.Places.{place-none}
use Rattle.con_history.proofs.histories.place.Goals as goal

pub returns-in-None-clause-place : goal.returns-in-None-clause-place
returns-in-None-clause-place c = place-none _ _ c.in-None.ensures

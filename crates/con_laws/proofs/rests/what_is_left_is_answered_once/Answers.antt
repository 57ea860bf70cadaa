use Rattle.con_laws.proofs.Rested.{left_once}
use Rattle.con_laws.proofs.rests.what_is_left_is_answered_once.Goals as goal

pub returns : goal.returns
returns c = left_once

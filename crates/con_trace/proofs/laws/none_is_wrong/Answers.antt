use Rattle.con_trace.proofs.Tells.{none_is_wrong}
use Rattle.con_trace.proofs.laws.none_is_wrong.Goals as goal

pub returns : goal.returns
returns c = none_is_wrong

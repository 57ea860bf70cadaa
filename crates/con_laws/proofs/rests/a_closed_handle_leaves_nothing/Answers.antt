use Rattle.con_laws.proofs.Reopened.{nothing_inherited}
use Rattle.con_laws.proofs.rests.a_closed_handle_leaves_nothing.Goals as goal

pub returns : goal.returns
returns c = nothing_inherited

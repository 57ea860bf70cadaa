use Rattle.con_laws.proofs.Idling.{peek_leaves}
use Rattle.con_laws.proofs.settled.a_peek_changes_nothing.Goals as goal

pub returns : goal.returns
returns c = peek_leaves

use Rattle.con_laws.proofs.Idling.{stays_still, telling_leaves}
use Rattle.con_laws.proofs.settled.what_only_tells_changes_nothing.Goals as goal

pub returns-clause-effect : goal.returns-clause-effect
returns-clause-effect c = stays_still

pub returns-clause-calls : goal.returns-clause-calls
returns-clause-calls c = telling_leaves

use Rattle.con_laws.specs.DueLaws.{nothing_due}
use Rattle.con_laws.proofs.session.nothing_is_due.Goals as goal

pub returns : goal.returns
returns c = nothing_due

use Rattle.con_laws.specs.ClosingLaws.{none_waits}
use Rattle.con_laws.proofs.session.nobody_waits_at_the_end.Goals as goal

pub returns : goal.returns
returns c = none_waits

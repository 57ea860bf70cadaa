use Rattle.con_screens.specs.HandleLaws.{retained_handles, released_handles, created_handles}
use Rattle.con_screens.proofs.laws.is_counted.Goals as goal

pub returns-clause-retained : goal.returns-clause-retained
returns-clause-retained c = retained_handles

pub returns-clause-released : goal.returns-clause-released
returns-clause-released c = released_handles

pub returns-clause-created : goal.returns-clause-created
returns-clause-created c = created_handles

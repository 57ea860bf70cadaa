use Rattle.con_screens.specs.StampLaws.{raised_shown, raised_view}
use Rattle.con_screens.proofs.laws.is_known_when_numbered.Goals as goal

pub returns-clause-shown : goal.returns-clause-shown
returns-clause-shown c = raised_shown

pub returns-clause-view : goal.returns-clause-view
returns-clause-view c = raised_view

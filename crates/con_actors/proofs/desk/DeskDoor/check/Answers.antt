use Rattle.con_actors.specs.DeskSince.{desk_ready}
use Rattle.con_actors.proofs.desk.DeskDoor.check.Goals as goal

pub returns-clause-ready : goal.returns-clause-ready
returns-clause-ready c = λ k s stands begins. desk_ready _ _ s _ _ _ _ _ _ _ c.ready.ensures stands begins

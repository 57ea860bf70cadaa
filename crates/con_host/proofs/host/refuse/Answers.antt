use Rattle.std.proofs.Common.{refl}
use Rattle.con_sessions.specs.Laws.{unless_done}
use Rattle.con_host.proofs.host.refuse.Goals as goal

pub returns-clause-status : goal.returns-clause-status
returns-clause-status g c = unless_done _ 2 _ _ _ _ c.close.ensures.tells refl

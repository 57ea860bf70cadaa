use Rattle.con_session.proofs.Hearing.{painted_ok}
use Rattle.con_session.proofs.painting.painter_turn.Goals as goal

pub returns-clause-acts : goal.returns-clause-acts
returns-clause-acts g c = rw c.has_painted.ensures c.painted.ensures.acts

pub returns-clause-fails : goal.returns-clause-fails
returns-clause-fails g c = rw c.has_painted.ensures c.painted.ensures.fails

pub returns-clause-turn : goal.returns-clause-turn
returns-clause-turn g c = rw c.has_painted.ensures c.painted.ensures.turn

pub returns-clause-served : goal.returns-clause-served
returns-clause-served g c = painted_ok _ _ _ c.has_painted.ensures c.painted.ensures.served

pub returns-clause-tied : goal.returns-clause-tied
returns-clause-tied g c = painted_ok _ _ _ c.has_painted.ensures c.painted.ensures.tied

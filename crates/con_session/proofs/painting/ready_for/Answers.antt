use Rattle.std.proofs.Common.{rules}
use Rattle.con_session.proofs.painting.ready_for.Goals as goal

pub returns : goal.returns
returns c = search rules

use Rattle.std.proofs.Common.{rules}
use Rattle.con_events.proofs.session.Session.new.Goals as goal

pub returns-else-within : goal.returns-else-within
returns-else-within c = search rules

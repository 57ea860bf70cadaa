use Rattle.std.proofs.Common.{rules}
use Rattle.con_procs.proofs.pending.Pending.put.Goals as goal

pub returns-then-event-eq2 : goal.returns-then-event-eq2
returns-then-event-eq2 c = search rules

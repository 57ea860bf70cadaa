use Rattle.std.proofs.Common.{rules}
use Rattle.con_procs.proofs.proc.Proc.is_reached.Goals as goal

pub returns-else-group-eq0-2 : goal.returns-else-group-eq0-2
returns-else-group-eq0-2 c = search rules

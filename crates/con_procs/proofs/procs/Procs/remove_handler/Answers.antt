use Rattle.std.proofs.Common.{rules}
use Rattle.con_procs.proofs.procs.Procs.remove_handler.Goals as goal

pub returns-clause-state : goal.returns-clause-state
returns-clause-state c = search rules

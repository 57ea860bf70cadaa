use Rattle.std.proofs.Common.{rules}
use Rattle.con_outside.proofs.memory.MemorySourceSource.read.Goals as goal

pub returns-clause-taken : goal.returns-clause-taken
returns-clause-taken c = search rules

use Rattle.std.proofs.Common.{rules}
use Rattle.con_outside.proofs.memory.MemorySinkSink.write.Goals as goal

pub returns-clause-appended : goal.returns-clause-appended
returns-clause-appended c = search rules

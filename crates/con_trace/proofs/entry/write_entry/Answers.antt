use Rattle.std.proofs.Common.{rules}
use Rattle.con_trace.proofs.entry.write_entry.Goals as goal

pub returns-clause-part : goal.returns-clause-part
returns-clause-part g c = search rules

use Rattle.std.proofs.Common.{rules}
use Rattle.con_pipe.proofs.ends.pipe.Goals as goal

pub returns-clause-room : goal.returns-clause-room
returns-clause-room c = search rules

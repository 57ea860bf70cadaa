use Rattle.std.proofs.Common.{rules}
use Rattle.con_console.proofs.entering.finish.Goals as goal

pub returns : goal.returns
returns c = search rules

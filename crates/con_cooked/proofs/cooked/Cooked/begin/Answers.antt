use Rattle.std.proofs.Common.{rules}
use Rattle.con_cooked.proofs.cooked.Cooked.begin.Goals as goal

pub returns-in-Ok : goal.returns-in-Ok
returns-in-Ok c = search rules

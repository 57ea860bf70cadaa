use Rattle.std.proofs.Common.{rules}
use Rattle.con_script.proofs.draws.cursor_step.Goals as goal

pub returns-clause-made : goal.returns-clause-made
returns-clause-made c = search rules

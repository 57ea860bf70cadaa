use Rattle.std.proofs.Common.{rules}
use Rattle.con_screen.proofs.answers.Answers.reserve.Goals as goal

pub returns-else-self-units-clause-reserved : goal.returns-else-self-units-clause-reserved
returns-else-self-units-clause-reserved c = search rules

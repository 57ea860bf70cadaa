use Rattle.std.proofs.Common.{rules}
use Rattle.con_history.proofs.histories.Histories.search.Goals as goal

pub returns-in-Some : goal.returns-in-Some
returns-in-Some c = search rules

use Rattle.std.proofs.Common.{rules}
use Rattle.con_history.proofs.histories.Histories.use_of.Goals as goal

pub returns-then-idle-len-clause-answer : goal.returns-then-idle-len-clause-answer
returns-then-idle-len-clause-answer c = search rules

pub returns-clause-histories : goal.returns-clause-histories
returns-clause-histories c = search rules

pub returns-clause-answer : goal.returns-clause-answer
returns-clause-answer c = search rules

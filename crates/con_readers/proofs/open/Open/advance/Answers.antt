use Rattle.std.proofs.Common.{rules}
use Rattle.con_readers.proofs.open.Open.advance.Goals as goal

pub returns-clause-one : goal.returns-clause-one
returns-clause-one c = search rules

pub returns-clause-histories : goal.returns-clause-histories
returns-clause-histories c = search rules

pub returns-clause-step : goal.returns-clause-step
returns-clause-step c = search rules

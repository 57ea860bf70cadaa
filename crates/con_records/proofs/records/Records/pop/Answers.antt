use Rattle.std.proofs.Common.{rules}
use Rattle.con_records.proofs.records.Records.pop.Goals as goal

pub returns-clause-items : goal.returns-clause-items
returns-clause-items c = search rules

pub returns-clause-rest : goal.returns-clause-rest
returns-clause-rest c = search rules

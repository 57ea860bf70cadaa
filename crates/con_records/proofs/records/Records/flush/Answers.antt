use Rattle.std.proofs.Common.{rules}
use Rattle.con_records.proofs.records.Records.flush.Goals as goal

pub returns-clause-emptied : goal.returns-clause-emptied
returns-clause-emptied c = search rules

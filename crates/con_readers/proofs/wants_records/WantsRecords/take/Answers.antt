use Rattle.std.proofs.Common.{rules}
use Rattle.con_readers.proofs.wants_records.WantsRecords.take.Goals as goal

pub returns-clause-rest : goal.returns-clause-rest
returns-clause-rest c = search rules

use Rattle.std.proofs.Common.{rules}
use Rattle.con_records.proofs.records.Records.reserve.Goals as goal

pub returns-else-is_err-clause-ok : goal.returns-else-is_err-clause-ok
returns-else-is_err-clause-ok c = search rules

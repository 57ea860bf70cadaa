use Rattle.std.proofs.Common.{rules}
use Rattle.con_vtin.proofs.reader.KeyReader.held.Goals as goal

pub returns-else-is_empty-clause-is : goal.returns-else-is_empty-clause-is
returns-else-is_empty-clause-is c = search rules

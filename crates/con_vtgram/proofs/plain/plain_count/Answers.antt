use Rattle.std.proofs.Common.{rules}
use Rattle.con_vtgram.proofs.plain.plain_count.Goals as goal

pub returns-clause-longest : goal.returns-clause-longest
returns-clause-longest c = search rules

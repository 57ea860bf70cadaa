use Rattle.std.proofs.Common.{rules}
use Rattle.con_vtgram.proofs.splitter.Splitter.title.Goals as goal

pub returns-clause-title : goal.returns-clause-title
returns-clause-title c = search rules

use Rattle.std.proofs.Common.{rules}
use Rattle.con_link.proofs.reader.plain_frame.Goals as goal

pub returns-in_default-clause-took : goal.returns-in_default-clause-took
returns-in_default-clause-took g c = search rules

use Rattle.std.proofs.Common.{rules}
use Rattle.con_vtgram.proofs.splitter.Splitter.feed.Goals as goal

pub returns-clause-items : goal.returns-clause-items
returns-clause-items c = search rules

pub returns-clause-tail : goal.returns-clause-tail
returns-clause-tail c = search rules

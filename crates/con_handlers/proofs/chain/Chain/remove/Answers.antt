use Rattle.std.proofs.Common.{rules}
use Rattle.con_handlers.proofs.chain.Chain.remove.Goals as goal

pub returns-then-index-len-clause-answer : goal.returns-then-index-len-clause-answer
returns-then-index-len-clause-answer c = search rules

pub returns-clause-ok : goal.returns-clause-ok
returns-clause-ok c = search rules

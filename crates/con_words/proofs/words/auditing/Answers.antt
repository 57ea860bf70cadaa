use Rattle.std.proofs.Common.{rules}
use Rattle.con_words.proofs.words.auditing.Goals as goal

pub returns-clause-form : goal.returns-clause-form
returns-clause-form c = search rules

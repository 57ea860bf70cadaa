use Rattle.std.proofs.Common.{rules}
use Rattle.con_words.proofs.words.running.Goals as goal

pub returns-in-Some-clause-form : goal.returns-in-Some-clause-form
returns-in-Some-clause-form c = search rules

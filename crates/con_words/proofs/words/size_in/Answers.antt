use Rattle.std.proofs.Common.{rules}
use Rattle.con_words.proofs.words.size_in.Goals as goal

pub returns-clause-window : goal.returns-clause-window
returns-clause-window c = search rules

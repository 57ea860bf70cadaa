use Rattle.std.proofs.Common.{rules}
use Rattle.con_alias.proofs.aliases.Aliases.get.Goals as goal

pub returns-in-None : goal.returns-in-None
returns-in-None c = search rules

use Rattle.std.proofs.Common.{rules}
use Rattle.con_alias.proofs.aliases.Aliases.at.Goals as goal

pub returns-clause-source : goal.returns-clause-source
returns-clause-source c = search rules

pub returns-clause-target : goal.returns-clause-target
returns-clause-target c = search rules

use Rattle.std.proofs.Common.{rules}
use Rattle.con_script.proofs.version.most_clients_of.Goals as goal

pub returns-in-One : goal.returns-in-One
returns-in-One c = search rules

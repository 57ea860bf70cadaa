use Rattle.std.proofs.Common.{rules}
use Rattle.con_events.proofs.telling.name.Goals as goal

pub returns-in-Peek : goal.returns-in-Peek
returns-in-Peek c = search rules

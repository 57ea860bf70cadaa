use Rattle.std.proofs.Common.{rules}
use Rattle.con_handles.proofs.handles.Handles.is_full.Goals as goal

pub returns-in-Ok-clause-limit : goal.returns-in-Ok-clause-limit
returns-in-Ok-clause-limit c = search rules

use Rattle.std.proofs.Common.{rules}
use Rattle.con_handles.proofs.handles.Handles.open.Goals as goal

pub returns-clause-state : goal.returns-clause-state
returns-clause-state c = search rules

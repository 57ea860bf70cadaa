use Rattle.std.proofs.Common.{rules}
use Rattle.con_handles.proofs.handles.Handles.look.Goals as goal

pub returns-in-Some-clause-answer : goal.returns-in-Some-clause-answer
returns-in-Some-clause-answer c = search rules

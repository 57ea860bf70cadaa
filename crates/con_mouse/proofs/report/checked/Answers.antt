use Rattle.std.proofs.Common.{rules}
use Rattle.con_mouse.proofs.report.checked.Goals as goal

pub returns-then-y-ge1-clause-is : goal.returns-then-y-ge1-clause-is
returns-then-y-ge1-clause-is c = search rules

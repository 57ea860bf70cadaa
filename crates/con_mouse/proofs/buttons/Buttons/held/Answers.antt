use Rattle.std.proofs.Common.{rules}
use Rattle.con_mouse.proofs.buttons.Buttons.held.Goals as goal

pub returns-clause-is : goal.returns-clause-is
returns-clause-is c = search rules

use Rattle.std.proofs.Common.{rules}
use Rattle.con_mouse.proofs.buttons.Buttons.press.Goals as goal

pub returns-in-Move-clause-held : goal.returns-in-Move-clause-held
returns-in-Move-clause-held c = search rules

pub returns-in-Change-clause-held : goal.returns-in-Change-clause-held
returns-in-Change-clause-held c = search rules

pub returns-in-Wheel-clause-held : goal.returns-in-Wheel-clause-held
returns-in-Wheel-clause-held c = search rules

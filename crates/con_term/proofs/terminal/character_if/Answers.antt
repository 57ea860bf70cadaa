-- No character.
use Rattle.std.proofs.Common.{sym}
use Rattle.con_term.specs.Inside.{parts}
use Rattle.con_term.specs.PlayLaws.{typed-none}
use Rattle.con_term.proofs.terminal.character_if.Goals as goal

pub returns-in_default : goal.returns-in_default
returns-in_default c = rw c.in_default.is (λ b. sym (typed-none (parts b c.args.page.now c.args.units.now)))

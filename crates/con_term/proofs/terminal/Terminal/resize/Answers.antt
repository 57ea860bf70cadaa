use Rattle.std.proofs.Common.{rules}
use Rattle.con_term.proofs.terminal.Terminal.resize.Goals as goal

pub returns-clause-blank : goal.returns-clause-blank
returns-clause-blank c = search rules

pub returns-clause-terminal : goal.returns-clause-terminal
returns-clause-terminal c = search rules

use Rattle.std.proofs.Common.{rules}
use Rattle.con_machine.specs.Fits.{Fits}
use Rattle.con_machine.specs.Step.{is_ready, step}
use Rattle.con_console.proofs.console.Console.apply.Goals as goal

pub returns-then-not-attached-clause-client : goal.returns-then-not-attached-clause-client
unfolding Fits is_ready step
returns-then-not-attached-clause-client c = search rules

pub returns-then-not-attached-clause-reply : goal.returns-then-not-attached-clause-reply
unfolding Fits is_ready step
returns-then-not-attached-clause-reply c = search rules

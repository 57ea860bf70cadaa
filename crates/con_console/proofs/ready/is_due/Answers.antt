use Rattle.std.proofs.Common.{rules}
use Rattle.con_machine.specs.Step.{is_due}
use Rattle.con_console.proofs.ready.is_due.Goals as goal

pub returns-in-Feed : goal.returns-in-Feed
unfolding is_due
returns-in-Feed c = search rules

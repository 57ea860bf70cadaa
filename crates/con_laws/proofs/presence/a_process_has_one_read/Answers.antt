use Rattle.con_laws.specs.PresenceLaws.{single_step, single_run, single_none}
use Rattle.con_laws.proofs.presence.a_process_has_one_read.Goals as goal

pub returns-clause-step : goal.returns-clause-step
returns-clause-step c = single_step

pub returns-clause-run : goal.returns-clause-run
returns-clause-run c = single_run

pub returns-clause-none : goal.returns-clause-none
returns-clause-none c = single_none

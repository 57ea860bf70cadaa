use Rattle.con_laws.proofs.Idling.{begins_settled, step_settles, run_settles}
use Rattle.con_laws.proofs.settled.every_event_leaves_nothing_to_do.Goals as goal

pub returns-clause-begins : goal.returns-clause-begins
returns-clause-begins c = begins_settled

pub returns-clause-step : goal.returns-clause-step
returns-clause-step c = step_settles

pub returns-clause-run : goal.returns-clause-run
returns-clause-run c = run_settles

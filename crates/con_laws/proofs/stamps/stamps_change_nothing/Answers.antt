use Rattle.con_laws.proofs.StepStamps.{view_alike, act_alike, run_alike}
use Rattle.con_laws.proofs.stamps.stamps_change_nothing.Goals as goal

pub returns-clause-view : goal.returns-clause-view
returns-clause-view c = view_alike

pub returns-clause-entry : goal.returns-clause-entry
returns-clause-entry c = act_alike

pub returns-clause-history : goal.returns-clause-history
returns-clause-history c = run_alike

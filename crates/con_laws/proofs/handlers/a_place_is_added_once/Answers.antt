use Rattle.con_laws.specs.HandlerLaws.{step_once, run_added}
use Rattle.con_laws.proofs.handlers.a_place_is_added_once.Goals as goal

pub returns : goal.returns
returns c = record { event = step_once; history = run_added }

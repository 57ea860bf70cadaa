use Rattle.std.proofs.Common.{◌∙◌}
use Rattle.con_run.proofs.SideLaws.{asked_by}
use Rattle.con_run.proofs.work.side.is_served.Goals as goal

pub returns-clause-served : goal.returns-clause-served
returns-clause-served g c = asked_by _ _ _ c.check.ensures.ready (c.check.ensures.same.actor ∙ c.requires.actor)

use Rattle.con_inspect.proofs.Ends.{misread_by}
use Rattle.con_inspect.proofs.auditing.found_of.Goals as goal

pub returns-in-Ok-clause-told : goal.returns-in-Ok-clause-told
returns-in-Ok-clause-told g c = misread_by _ _ c.in-Ok.contents _ c.judge.result c.in-Ok.ensures.whole c.judge.ensures.told

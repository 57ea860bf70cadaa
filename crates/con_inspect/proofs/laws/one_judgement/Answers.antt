use Rattle.con_inspect.proofs.Judgements.{judged_once}
use Rattle.con_inspect.proofs.laws.one_judgement.Goals as goal

pub returns : goal.returns
returns c = judged_once c.one_answer.ensures c.report_tells.ensures c.none_is_wrong.ensures

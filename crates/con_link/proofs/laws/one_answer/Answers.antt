use Rattle.con_link.proofs.OneAnswer.{one_answer}
use Rattle.con_link.proofs.laws.one_answer.Goals as goal

pub returns : goal.returns
returns c = one_answer

use Rattle.con_link.proofs.OneMirrored.{one_mirror_answer as one_mirror_answer_law}
use Rattle.con_link.proofs.laws.one_mirror_answer.Goals as goal

pub returns : goal.returns
returns c = one_mirror_answer_law

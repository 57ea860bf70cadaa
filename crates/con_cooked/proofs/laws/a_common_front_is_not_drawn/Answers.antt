use Rattle.con_cooked.proofs.Waking.{draws-behind}
use Rattle.con_cooked.proofs.laws.a_common_front_is_not_drawn.Goals as goal

pub returns : goal.returns
returns c = draws-behind

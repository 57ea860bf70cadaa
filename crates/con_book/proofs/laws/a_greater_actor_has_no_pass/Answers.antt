use Rattle.con_book.specs.Laws.{has_pass-above}
use Rattle.con_book.proofs.laws.a_greater_actor_has_no_pass.Goals as goal

pub returns : goal.returns
returns g c = λ actor v some below. has_pass-above actor v some below

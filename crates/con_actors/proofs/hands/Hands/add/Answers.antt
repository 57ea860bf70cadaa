use Rattle.con_actors.proofs.ChainLaws.{slots_stay}
use Rattle.con_actors.proofs.hands.Hands.add.Goals as goal

pub returns-clause-rest : goal.returns-clause-rest
returns-clause-rest g c = λ i n. rw c.taken.ensures.rest (slots_stay _ _ _ i n)

pub returns-in_default-clause-rest : goal.returns-in_default-clause-rest
returns-in_default-clause-rest g c = λ i n. rw c.taken.ensures.rest (slots_stay _ _ _ i n)

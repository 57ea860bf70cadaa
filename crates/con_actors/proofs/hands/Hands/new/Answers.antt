use Rattle.con_actors.proofs.ChainLaws.{first_hands}
use Rattle.con_actors.proofs.hands.Hands.new.Goals as goal

pub returns : goal.returns
returns g c = record { stand = λ b p kinds. rw (c.new.ensures, c.new-2.ensures.items) (first_hands _ _ _ b p c.in_ok-rack.ensures kinds) }

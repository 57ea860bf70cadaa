use Rattle.con_actors.specs.DeskSince.{since_here}
use Rattle.con_actors.specs.DoorExact.{client_of, exact}
use Rattle.con_session.proofs.clients.client_turn.Goals as goal

pub returns-clause-ran : goal.returns-clause-ran
returns-clause-ran g c = (c.act.ensures.stands c.args.desk.now (since_here _ _ _)).ran

pub returns-clause-turn : goal.returns-clause-turn
returns-clause-turn g c = λ b k are. exact b _ _ _ _ _ _ _ k.state (c.act.ensures.stands c.args.desk.now (since_here _ _ _)) _ _ _ _ _ _
    (c.act.ensures.turned c.args.desk.now b (since_here _ _ _) k.state (client_of b _ _ _ _ _ k) are)

use Rattle.con_actors.proofs.ChainLaws.{dropped_is}
use Rattle.con_actors.proofs.hands.drop_at.Goals as goal

pub returns : goal.returns
returns g c = dropped_is _ _ _ c.args.index c.remove.ensures.answer c.remove.ensures.ok c.remove.ensures.err

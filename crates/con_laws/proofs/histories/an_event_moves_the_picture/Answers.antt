use Rattle.con_laws.specs.PictureLaws.{step_moves}
use Rattle.con_laws.proofs.histories.an_event_moves_the_picture.Goals as goal

pub returns : goal.returns
returns c = step_moves

use Rattle.con_laws.specs.ShowingLaws.{painted_shows}
use Rattle.con_laws.proofs.session.the_last_paint_shows_all.Goals as goal

pub returns : goal.returns
returns c = painted_shows

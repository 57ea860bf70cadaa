use Rattle.con_machine.specs.SameViews.{shows_same}
use Rattle.con_machine.proofs.painting.showing.is_painted.Goals as goal

pub returns-in-Some : goal.returns-in-Some
returns-in-Some c = rw c.in-Some.is (shows_same c.shows.result _ c.in-Some.last c.shows.ensures.exact)

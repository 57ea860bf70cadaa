use Rattle.con_screen.proofs.ToldLemmas.{told_within}
use Rattle.con_screen.proofs.screen.is_told_within.Goals as goal

pub returns : goal.returns
returns c = told_within c.completes_one_item.ensures

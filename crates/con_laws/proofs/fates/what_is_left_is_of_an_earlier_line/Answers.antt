use Rattle.con_laws.proofs.Lefts.{rests_from}
use Rattle.con_laws.proofs.fates.what_is_left_is_of_an_earlier_line.Goals as goal

pub returns : goal.returns
returns c = rests_from

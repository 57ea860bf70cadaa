-- The checksum of a text is that of its units from the first on.
use Rattle.con_history.specs.Sums.{sum_of}
use Rattle.con_history.proofs.kept.whole_sum.Goals as goal

pub returns : goal.returns
unfolding sum_of
returns c = c.sum_on.ensures

use Rattle.con_units.specs.SplitLaws.{split_after-append}
use Rattle.con_vtin.specs.Words.Keys.{grammar}
use Rattle.con_vtin.proofs.laws.is_read_however_cut.Goals as goal

pub returns : goal.returns
returns c = λ held front rest. split_after-append grammar held front rest

use Rattle.con_units.specs.Utf8.{utf8}
use Rattle.con_units.specs.SplitLaws.{split_after-append}
use Rattle.con_units.proofs.utf8.is_read_however_cut.Goals as goal

pub returns : goal.returns
returns c = split_after-append utf8

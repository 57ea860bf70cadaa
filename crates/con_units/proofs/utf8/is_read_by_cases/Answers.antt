use Rattle.con_units.specs.Utf8.{utf8}
use Rattle.con_units.specs.ReadLaws.{read_so}
use Rattle.con_units.proofs.utf8.is_read_by_cases.Goals as goal

pub returns : goal.returns
returns c = read_so utf8

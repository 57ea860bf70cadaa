use Rattle.con_units.specs.ReadLaws.{read_so}
use Rattle.con_vtin.specs.Words.Keys.{grammar}
use Rattle.con_vtin.proofs.laws.is_read_by_cases.Goals as goal

pub returns : goal.returns
returns c = read_so grammar

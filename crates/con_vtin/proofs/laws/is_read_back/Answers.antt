use Rattle.con_vtin.proofs.BackLemmas.{read_back}
use Rattle.con_vtin.proofs.laws.is_read_back.Goals as goal

pub returns : goal.returns
returns c = read_back

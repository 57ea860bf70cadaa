use Rattle.con_vtin.proofs.SentLemmas.{sends_within}
use Rattle.con_vtin.proofs.laws.is_sent_within_its_bytes.Goals as goal

pub returns : goal.returns
returns c = sends_within

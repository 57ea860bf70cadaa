use Rattle.con_vtgram.proofs.FewLemmas.{are_few}
use Rattle.con_vtgram.proofs.splitter.completes_one_item.Goals as goal

pub returns : goal.returns
returns c = are_few

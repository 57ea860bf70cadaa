use Rattle.con_vtgram.proofs.PlainLemmas.{plain_is_printed}
use Rattle.con_vtgram.proofs.plain.plain_is_printed.Goals as goal

pub returns : goal.returns
returns c = plain_is_printed

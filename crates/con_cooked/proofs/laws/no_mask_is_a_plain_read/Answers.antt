use Rattle.con_cooked.proofs.Waking.{plain-reading}
use Rattle.con_cooked.proofs.laws.no_mask_is_a_plain_read.Goals as goal

pub returns : goal.returns
returns c = plain-reading

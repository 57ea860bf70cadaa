use Rattle.con_laws.proofs.Cutting.{cut_anywhere}
use Rattle.con_laws.proofs.cuts.bytes_may_be_cut_anywhere.Goals as goal

pub returns : goal.returns
returns c = cut_anywhere

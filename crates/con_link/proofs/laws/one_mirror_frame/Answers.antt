use Rattle.con_link.proofs.OneMirrored.{one_mirror_frame as one_mirror_frame_law}
use Rattle.con_link.proofs.laws.one_mirror_frame.Goals as goal

pub returns : goal.returns
returns c = one_mirror_frame_law

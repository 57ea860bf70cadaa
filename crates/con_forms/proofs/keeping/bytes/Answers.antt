use Rattle.con_lines.specs.Words.Fits.{AreBytes}
use Rattle.con_forms.proofs.Rests.{one_copied}
use Rattle.con_forms.proofs.keeping.bytes.Goals as goal

pub loop-rest-preserved : goal.loop-rest-preserved
loop-rest-preserved c = one_copied AreBytes c.loop-rest.rest.now 0 c.in-len1-up.len_at_least (λ ys q. (c.byte.ensures, q)) c.loop-rest.invariant

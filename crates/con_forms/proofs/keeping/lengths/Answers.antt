use Rattle.con_forms.specs.Kept.{EndsKeep}
use Rattle.con_forms.proofs.Rests.{one_copied}
use Rattle.con_forms.proofs.keeping.lengths.Goals as goal

pub loop-rest-preserved : goal.loop-rest-preserved
loop-rest-preserved c = one_copied EndsKeep c.loop-rest.rest.now 0 c.in-len1-up.len_at_least (λ ys q. (c.length.ensures, q)) c.loop-rest.invariant

use Rattle.con_lines.specs.Words.Fits.{AreWhole}
use Rattle.con_forms.proofs.Rests.{one_copied}
use Rattle.con_forms.proofs.keeping.numbers.Goals as goal

pub loop-rest-preserved : goal.loop-rest-preserved
loop-rest-preserved c = one_copied AreWhole c.loop-rest.rest.now _ c.in-len1-up.len_at_least (λ ys q. (c.whole.ensures, q)) c.loop-rest.invariant

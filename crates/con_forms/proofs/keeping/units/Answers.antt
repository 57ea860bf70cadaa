use Rattle.con_events.specs.Fits.{AreUnits}
use Rattle.con_forms.proofs.Rests.{one_copied}
use Rattle.con_forms.proofs.keeping.units.Goals as goal

pub loop-rest-preserved : goal.loop-rest-preserved
loop-rest-preserved c = one_copied AreUnits c.loop-rest.rest.now 0 c.in-len1-up.len_at_least (λ ys q. (c.unit.ensures, q)) c.loop-rest.invariant

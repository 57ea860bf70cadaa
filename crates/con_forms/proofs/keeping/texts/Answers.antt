use Rattle.std.proofs.Common.{subst}
use Rattle.con_events.specs.Fits.{AreUnits}
use Rattle.con_lines.specs.Words.Fits.{AreTexts}
use Rattle.con_forms.proofs.Rests.{one_more}
use Rattle.con_forms.proofs.keeping.texts.Goals as goal

pub loop-rest-preserved : goal.loop-rest-preserved
loop-rest-preserved c =
    one_more AreTexts c.loop-rest.rest.now c.one-item.result c.in-len1-up.len_at_least c.one-item.is (λ ys q. (subst AreUnits c.as_slice.ensures c.units.ensures, q)) c.loop-rest.invariant

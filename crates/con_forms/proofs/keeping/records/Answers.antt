use Rattle.con_events.specs.Words.Fits.{RecordsFit}
use Rattle.con_forms.proofs.Rests.{one_copied}
use Rattle.con_forms.proofs.keeping.records.Goals as goal

pub loop-rest-preserved : goal.loop-rest-preserved
loop-rest-preserved c = one_copied RecordsFit c.loop-rest.rest.now _ c.in-len1-up.len_at_least (λ ys q. (c.one_record.ensures, q)) c.loop-rest.invariant

use Rattle.con_laws.proofs.Peeked.{peeks, stays}
use Rattle.con_laws.proofs.fates.a_peek_changes_no_fate.Goals as goal

pub returns-clause-peeked : goal.returns-clause-peeked
returns-clause-peeked c = peeks c.serving_loses_nothing.ensures

pub returns-clause-stays : goal.returns-clause-stays
returns-clause-stays c = stays

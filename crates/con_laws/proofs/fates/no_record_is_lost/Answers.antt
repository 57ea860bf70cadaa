use Rattle.con_laws.proofs.Conserved.{conserved}
use Rattle.con_laws.proofs.Fated.{fates_are}
use Rattle.con_laws.proofs.fates.no_record_is_lost.Goals as goal

pub returns-clause-records : goal.returns-clause-records
returns-clause-records c = conserved c.serving_loses_nothing.ensures

pub returns-clause-fates : goal.returns-clause-fates
returns-clause-fates c = fates_are c.serving_loses_nothing.ensures

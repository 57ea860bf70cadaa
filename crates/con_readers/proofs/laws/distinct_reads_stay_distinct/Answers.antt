use Rattle.con_readers.proofs.Distinctness.{pumped-distinct, settled-distinct, closed-distinct, aborted-distinct, begun-distinct, gone-distinct}
use Rattle.con_readers.proofs.laws.distinct_reads_stay_distinct.Goals as goal

pub returns-clause-pumped : goal.returns-clause-pumped
returns-clause-pumped c = pumped-distinct

pub returns-clause-settled : goal.returns-clause-settled
returns-clause-settled c = settled-distinct

pub returns-clause-closed : goal.returns-clause-closed
returns-clause-closed c = closed-distinct

pub returns-clause-aborted : goal.returns-clause-aborted
returns-clause-aborted c = aborted-distinct

pub returns-clause-begun : goal.returns-clause-begun
returns-clause-begun c = begun-distinct

pub returns-clause-gone : goal.returns-clause-gone
returns-clause-gone c = gone-distinct

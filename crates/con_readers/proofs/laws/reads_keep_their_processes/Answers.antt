use Rattle.con_readers.proofs.Distinctness.{pumped-processes, settled-processes, closed-processes, aborted-processes}
use Rattle.con_readers.proofs.laws.reads_keep_their_processes.Goals as goal

pub returns-clause-pumped : goal.returns-clause-pumped
returns-clause-pumped c = pumped-processes

pub returns-clause-settled : goal.returns-clause-settled
returns-clause-settled c = settled-processes

pub returns-clause-closed : goal.returns-clause-closed
returns-clause-closed c = closed-processes

pub returns-clause-aborted : goal.returns-clause-aborted
returns-clause-aborted c = aborted-processes

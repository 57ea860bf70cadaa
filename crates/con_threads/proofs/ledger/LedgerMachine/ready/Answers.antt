use Rattle.std.proofs.Common.{rules}
use Rattle.con_threads.proofs.ledger.LedgerMachine.ready.Goals as goal

pub returns : goal.returns
returns c = search rules

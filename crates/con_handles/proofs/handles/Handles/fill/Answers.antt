use Rattle.con_handles.proofs.Tables.{table_of_taken}
use Rattle.con_handles.proofs.handles.Handles.fill.Goals as goal

pub returns-clause-table : goal.returns-clause-table
returns-clause-table c = table_of_taken _ _ c.self.invariant.2

use Rattle.std.proofs.Common.{rules}
use Rattle.con_handles.proofs.Tables.{table_of}
use Rattle.con_handles.proofs.handles.Handles.reserve.Goals as goal

pub returns-else-self-lt1-clause-table : goal.returns-else-self-lt1-clause-table
returns-else-self-lt1-clause-table c = rw (← c.self.view_is) (table_of c.self.inside.places.items (search rules))

pub returns-in_err-fill-clause-table : goal.returns-in_err-fill-clause-table
returns-in_err-fill-clause-table c = table_of _ (search rules)

pub returns-in_ok-fill-clause-table : goal.returns-in_ok-fill-clause-table
returns-in_ok-fill-clause-table c = table_of _ (search rules)

use Rattle.std.proofs.Common.{rules}
use Rattle.con_handles.proofs.Tables.{table_of}
use Rattle.con_handles.proofs.handles.Handles.find.Goals as goal

pub returns-clause-table : goal.returns-clause-table
returns-clause-table c = rw (← c.self.view_is) (table_of c.self.inside.places.items (search rules))

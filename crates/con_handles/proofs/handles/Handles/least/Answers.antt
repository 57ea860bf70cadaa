use Rattle.std.proofs.Common.{rules, ap, ◌∙◌, List, Option}
use Rattle.con_handles.specs.declared.handle.Held.{Held}
use Rattle.con_handles.specs.Words.Handles.{least_of}
use Rattle.con_handles.specs.Places.{listed}
use Rattle.con_handles.proofs.Tables.{table_of, least_at}
use Rattle.con_handles.proofs.handles.Handles.least.Goals as goal

pub returns-clause-found : goal.returns-clause-found
returns-clause-found c =
    let is = c.least.ensures.is ∙ ap (λ (ps : List (Option Held)). least_of (listed 0 ps) c.args.process) c.as_slice.ensures.value in
    rw (← c.self.view_is) (least_at (listed 0 c.self.inside.places.items) c.args.process c.least.result is c.least.ensures.process)

pub returns-clause-table : goal.returns-clause-table
returns-clause-table c = rw (← c.self.view_is) (table_of c.self.inside.places.items (search rules))

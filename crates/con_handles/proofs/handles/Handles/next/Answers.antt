-- The limit is reached exactly at 64.
use Rattle.std.proofs.Common.{rules, ◌∙◌, ap, List, Option}
use Rattle.con_handles.specs.declared.handle.Held.{Held}
use Rattle.con_handles.specs.Words.Handles.{least_free}
use Rattle.con_handles.specs.Places.{listed}
use Rattle.con_handles.proofs.Counting.{limit_for, number_past, number_found}
use Rattle.con_handles.proofs.Tables.{table_of}
use Rattle.con_handles.proofs.handles.Handles.next.Goals as goal

pub returns-then-number-le-MOST-clause-limit : goal.returns-then-number-le-MOST-clause-limit
returns-then-number-le-MOST-clause-limit c =
    let is = c.first_free-number.ensures.is ∙ ap (λ (ps : List (Option Held)). least_free (listed 0 ps) c.args.process) c.as_slice.ensures.value in
    rw (← c.self.view_is) (limit_for c.self.inside.places.items c.args.process _ (number_found (listed 0 c.self.inside.places.items) c.args.process c.first_free-number.result is c.if-number-le-MOST.true))

pub returns-else-number-le-MOST-clause-limit : goal.returns-else-number-le-MOST-clause-limit
returns-else-number-le-MOST-clause-limit c =
    let is = c.first_free-number.ensures.is ∙ ap (λ (ps : List (Option Held)). least_free (listed 0 ps) c.args.process) c.as_slice.ensures.value in
    rw (← c.self.view_is) (limit_for c.self.inside.places.items c.args.process _ (number_past (listed 0 c.self.inside.places.items) c.args.process c.first_free-number.result is c.if-number-le-MOST.false))

pub returns-then-number-le-MOST-clause-table : goal.returns-then-number-le-MOST-clause-table
returns-then-number-le-MOST-clause-table c = rw (← c.self.view_is) (table_of c.self.inside.places.items (search rules))

pub returns-else-number-le-MOST-clause-table : goal.returns-else-number-le-MOST-clause-table
returns-else-number-le-MOST-clause-table c = rw (← c.self.view_is) (table_of c.self.inside.places.items (search rules))

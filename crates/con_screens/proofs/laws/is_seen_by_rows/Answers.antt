use Rattle.con_screens.specs.ViewLaws.{whole_view, view_row, view_row_same}
use Rattle.con_screens.proofs.laws.is_seen_by_rows.Goals as goal

pub returns-clause-whole : goal.returns-clause-whole
returns-clause-whole c = whole_view

pub returns-clause-row : goal.returns-clause-row
returns-clause-row c = view_row

pub returns-clause-same : goal.returns-clause-same
returns-clause-same c = view_row_same

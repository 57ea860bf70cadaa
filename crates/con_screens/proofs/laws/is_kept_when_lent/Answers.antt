use Rattle.con_screens.specs.LentLaws.{lent_keeps, resized_keeps, left_handles, left_same, left_shows, left_others}
use Rattle.con_screens.specs.StampLaws.{remembers}
use Rattle.con_screens.proofs.laws.is_kept_when_lent.Goals as goal

pub returns-clause-kept : goal.returns-clause-kept
returns-clause-kept c = lent_keeps

pub returns-clause-resized : goal.returns-clause-resized
returns-clause-resized c = resized_keeps

pub returns-clause-handles : goal.returns-clause-handles
returns-clause-handles c = left_handles

pub returns-clause-same : goal.returns-clause-same
returns-clause-same c = left_same

pub returns-clause-shows : goal.returns-clause-shows
returns-clause-shows c = left_shows

pub returns-clause-others : goal.returns-clause-others
returns-clause-others c = left_others

pub returns-clause-remembers : goal.returns-clause-remembers
returns-clause-remembers c = remembers

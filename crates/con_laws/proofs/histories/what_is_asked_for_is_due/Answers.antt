use Rattle.con_laws.specs.PictureLaws.{asked_is_due, paint_answers}
use Rattle.con_laws.proofs.histories.what_is_asked_for_is_due.Goals as goal

pub returns-clause-due : goal.returns-clause-due
returns-clause-due c = asked_is_due

pub returns-clause-view : goal.returns-clause-view
returns-clause-view c = paint_answers

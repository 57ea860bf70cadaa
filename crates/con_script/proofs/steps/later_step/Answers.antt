use Rattle.con_document.specs.RowLaws.{of_the_first}
use Rattle.con_script.proofs.steps.later_step.Goals as goal

pub returns-in_default-clause-ok : goal.returns-in_default-clause-ok
returns-in_default-clause-ok g c = rw (of_the_first c.args.name.now c.in_default.not-text) c.first_step.ensures.ok

pub returns-in_default-clause-form : goal.returns-in_default-clause-form
returns-in_default-clause-form g c = rw (of_the_first c.args.name.now c.in_default.not-text) c.first_step.ensures.form

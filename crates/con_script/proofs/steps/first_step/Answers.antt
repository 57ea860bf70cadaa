use Rattle.con_document.specs.RowLaws.{of_calls}
use Rattle.con_script.proofs.steps.first_step.Goals as goal

pub returns-in_default-clause-ok : goal.returns-in_default-clause-ok
returns-in_default-clause-ok g c = rw (of_calls c.args.name.now c.in_default.not-read c.in_default.not-text c.in_default.not-exit) c.called.ensures.ok

pub returns-in_default-clause-form : goal.returns-in_default-clause-form
returns-in_default-clause-form g c = rw (of_calls c.args.name.now c.in_default.not-read c.in_default.not-text c.in_default.not-exit) c.called.ensures.form

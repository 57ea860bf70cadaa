use Rattle.std.proofs.Common.{subst}
use Rattle.con_inspect.specs.Auditing.{found}
use Rattle.con_inspect.specs.Words.Four.{Barred}
use Rattle.con_inspect.proofs.Ends.{audited, complete, no_memory, report_failed, told_alone}
use Rattle.con_inspect.proofs.auditing.host_audit.Goals as goal

pub returns-in-Ok-clause-outcome : goal.returns-in-Ok-clause-outcome
returns-in-Ok-clause-outcome g c = audited c.yes_is_a_run.ensures _ _ _ _ _ _ _ (found c.in-Ok.finding) c.in-Ok.ensures.found c.tell.ensures.told

pub returns-in-Ok-clause-complete : goal.returns-in-Ok-clause-complete
returns-in-Ok-clause-complete g c = complete c.one_judgement.ensures _ _ _ _ _ _ _ (returns-in-Ok-clause-outcome g c)

pub returns-in-Ok-clause-report_failed : goal.returns-in-Ok-clause-report_failed
returns-in-Ok-clause-report_failed g c = report_failed _ _ _ _ _ _ _ (returns-in-Ok-clause-outcome g c)

pub returns-in-Err-Told-clause-outcome : goal.returns-in-Err-Told-clause-outcome
returns-in-Err-Told-clause-outcome g c =
    let why = subst (Barred _ _ _) c.in-Err-Told.field-0-is c.in-Err-Told.ensures.told in
    told_alone c.yes_is_a_run.ensures _ _ _ _ _ _ _ c.in-Err-Told.last why c.close.ensures.tells

pub returns-in-Err-Told-clause-complete : goal.returns-in-Err-Told-clause-complete
returns-in-Err-Told-clause-complete g c = complete c.one_judgement.ensures _ _ _ _ _ _ _ (returns-in-Err-Told-clause-outcome g c)

pub returns-in-Err-Told-clause-report_failed : goal.returns-in-Err-Told-clause-report_failed
returns-in-Err-Told-clause-report_failed g c = report_failed _ _ _ _ _ _ _ (returns-in-Err-Told-clause-outcome g c)

pub returns-in-Err-OutOfMemory-clause-outcome : goal.returns-in-Err-OutOfMemory-clause-outcome
returns-in-Err-OutOfMemory-clause-outcome g c = no_memory _ _ _ _ _

pub returns-in-Err-OutOfMemory-clause-complete : goal.returns-in-Err-OutOfMemory-clause-complete
returns-in-Err-OutOfMemory-clause-complete g c = complete c.one_judgement.ensures _ _ _ _ _ _ _ (returns-in-Err-OutOfMemory-clause-outcome g c)

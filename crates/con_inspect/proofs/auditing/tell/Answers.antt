use Rattle.con_inspect.proofs.Ends.{written_so}
use Rattle.con_inspect.proofs.auditing.tell.Goals as goal

pub returns-clause-told : goal.returns-clause-told
returns-clause-told g c =
    written_so c.write_audit-written.result _ _ c.args.finding _ _ _ _ c.line.ensures c.status.ensures c.status_after.ensures
    c.write_audit-written.ensures.whole c.write_audit-written.ensures.part c.write_audit-written.ensures.failed

use Rattle.con_sessions.proofs.Reports.{front_with, reported_with}
use Rattle.con_sessions.proofs.session.tell.Goals as goal

pub returns-clause-reported : goal.returns-clause-reported
returns-clause-reported g c =
    let wrote = c.write_outcome-written.ensures in
    reported_with c.write_outcome-written.result _ _ _ _ _ _ _ _ _ c.last_of-last.ensures c.status_by.ensures wrote.whole wrote.part wrote.failed

pub returns-clause-told : goal.returns-clause-told
returns-clause-told g c = front_with c.args.outcome.now.entries c.args.outcome.now.replies c.args.outcome.now.ends _ _ _ _ c.last_of-last.ensures c.write_outcome-written.ensures.told

use Rattle.con_machine.specs.HistoryLaws.{legal-one}
use Rattle.con_laws.specs.AlongLaws.{legal-last, session-last, session-one, script-last, script-one, link-last, link-one, answered-last, answered-one}
use Rattle.con_laws.proofs.histories.an_entry_more_may_stand.Goals as goal

pub returns-clause-ready : goal.returns-clause-ready
returns-clause-ready c = legal-last

pub returns-clause-legal : goal.returns-clause-legal
returns-clause-legal c = legal-one

pub returns-clause-actor : goal.returns-clause-actor
returns-clause-actor c = session-last

pub returns-clause-of_session : goal.returns-clause-of_session
returns-clause-of_session c = session-one

pub returns-clause-may_client : goal.returns-clause-may_client
returns-clause-may_client c = script-last

pub returns-clause-client : goal.returns-clause-client
returns-clause-client c = script-one

pub returns-clause-may_send : goal.returns-clause-may_send
returns-clause-may_send c = link-last

pub returns-clause-link : goal.returns-clause-link
returns-clause-link c = link-one

pub returns-clause-may_act : goal.returns-clause-may_act
returns-clause-may_act c = answered-last

pub returns-clause-answered : goal.returns-clause-answered
returns-clause-answered c = answered-one

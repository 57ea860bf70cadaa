use Rattle.con_machine.specs.HistoryLaws.{turns-own, turns-other, sent-own, sent-other, has_ended-one}
use Rattle.con_laws.proofs.histories.an_entry_is_its_actors.Goals as goal

pub returns-clause-own : goal.returns-clause-own
returns-clause-own c = turns-own

pub returns-clause-other : goal.returns-clause-other
returns-clause-other c = turns-other

pub returns-clause-sent_own : goal.returns-clause-sent_own
returns-clause-sent_own c = sent-own

pub returns-clause-sent_other : goal.returns-clause-sent_other
returns-clause-sent_other c = sent-other

pub returns-clause-ended : goal.returns-clause-ended
returns-clause-ended c = has_ended-one

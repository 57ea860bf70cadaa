use Rattle.con_machine.specs.HistoryLaws.{run-append, replies-append, legal-append, turns-append, sent-append, sights-append, paints-append}
use Rattle.con_laws.proofs.histories.histories_are_joined.Goals as goal

pub returns-clause-after : goal.returns-clause-after
returns-clause-after c = run-append

pub returns-clause-replies : goal.returns-clause-replies
returns-clause-replies c = replies-append

pub returns-clause-legal : goal.returns-clause-legal
returns-clause-legal c = legal-append

pub returns-clause-clients : goal.returns-clause-clients
returns-clause-clients c = turns-append

pub returns-clause-side : goal.returns-clause-side
returns-clause-side c = sent-append

pub returns-clause-shown : goal.returns-clause-shown
returns-clause-shown c = sights-append

pub returns-clause-counted : goal.returns-clause-counted
returns-clause-counted c = paints-append

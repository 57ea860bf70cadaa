-- What is read by a name is what the table reads.
use Rattle.con_events.proofs.NameLemmas.{call_read, call_not_read}
use Rattle.con_events.proofs.reading.read_call.Goals as goal

pub returns-in-Some-clause-ok : goal.returns-in-Some-clause-ok
returns-in-Some-clause-ok g c = call_read c.in-Some.name _ _ _ c.named_call.result c.in-Some.ensures.some c.named_call.ensures.ok

pub returns-in-Some-clause-form : goal.returns-in-Some-clause-form
returns-in-Some-clause-form g c = call_not_read c.in-Some.name _ _ c.named_call.result c.in-Some.ensures.some c.named_call.ensures.form

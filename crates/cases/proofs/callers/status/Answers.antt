use Rattle.std.proofs.Common.{inl}
use Rattle.cases.proofs.callers.status.Goals as goal

pub returns-clause-untouched : goal.returns-clause-untouched
returns-clause-untouched g c size form = (c.console_host.ensures.outcome.played size form).0

pub returns-clause-sound : goal.returns-clause-sound
returns-clause-sound g c names link stream trace form done = (c.console_host.ensures.outcome.audited names link stream trace form).2.run (inl done)

pub returns-clause-unshown : goal.returns-clause-unshown
returns-clause-unshown g c names link stream trace form = (c.console_host.ensures.outcome.audited names link stream trace form).1

pub returns-clause-no_form : goal.returns-clause-no_form
returns-clause-no_form g c form = (c.console_host.ensures.outcome.usage form).1

use Rattle.std.proofs.Common.{ap, ◌∙◌}
use Rattle.con_events.specs.declared.actor.Actor.{Actor}
use Rattle.con_events.specs.declared.event.Event.TheVariants as events
use Rattle.con_machine.specs.Step.{is_ready}
use Rattle.con_actors.specs.SenderLaws.{hangup_ready}
use Rattle.con_run.proofs.work.side.hang_up.Goals as goal

pub enter-requires-clause-ready : goal.enter-requires-clause-ready
enter-requires-clause-ready g c = λ s. ap (λ (a : Actor). is_ready s a events.Hangup) c.requires.actor ∙ hangup_ready s

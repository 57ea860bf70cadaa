-- What each event does to the window's size: a Resize alone gives another one.
use Rattle.std.proofs.Common.{ap}
use Rattle.con_events.specs.declared.actor.Actor.{Actor}
use Rattle.con_events.specs.declared.event.Event.{Event}
use Rattle.con_machine.specs.State.{State}
use Rattle.con_machine.specs.Step.{step}
use Rattle.con_machine.specs.Sizes.{SizedBy}
use Rattle.con_machine.specs.EventLaws.{Frame, step_frame}

pub step_keeps_size : (s : State) (a : Actor) (e : Event) → SizedBy s e (step s a e).after
step_keeps_size s a e = record { wide = ap (λ (f : Frame). f.wide) (step_frame s a e); high = ap (λ (f : Frame). f.high) (step_frame s a e) }

use Rattle.std.proofs.Common.{ap, ◌∙◌}
use Rattle.con_events.specs.declared.event.Event.TheVariants as events
use Rattle.con_actors.specs.DoorGoing.{rested, saw_here}
use Rattle.con_actors.proofs.step.call_step.Goals as goal

pub returns-in_err-call-in_default-clause-turned : goal.returns-in_err-call-in_default-clause-turned
returns-in_err-call-in_default-clause-turned g c = λ k b stands begins is are q.
    rested _ b _ (g.met.D.Door.others c.args.p) _ _ _ _ _ _ _ _ c.from_residual.ensures.0 (saw_here _ (g.met.D.Door.none _) _) is c.requires.here

pub call_plain-requires-clause-next : goal.call_plain-requires-clause-next
call_plain-requires-clause-next g c = ap events.Call c.in_ok-call-in_default.ensures ∙ c.requires.next

pub returns-in_ok-call-in_default-clause-turned : goal.returns-in_ok-call-in_default-clause-turned
returns-in_ok-call-in_default-clause-turned g c = λ k b stands begins is are q. c.call_plain.ensures.turned k b _ _ _ stands begins is are q

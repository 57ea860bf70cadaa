use Rattle.std.proofs.Common.{ap, ◌∙◌, sym}
use Rattle.con_events.specs.declared.event.Event.TheVariants as events
use Rattle.con_machine.specs.Client.{event_of}
use Rattle.con_actors.specs.DoorGoing.{exits_by_script, going_on, rested, saw_here}
use Rattle.con_actors.proofs.step.one_step.Goals as goal

pub returns-in_err-wanted-in-Begin-clause-turned : goal.returns-in_err-wanted-in-Begin-clause-turned
returns-in_err-wanted-in-Begin-clause-turned g c = λ k b stands begins is are q.
    rested _ b _ (g.met.D.Door.others c.args.p) _ _ _ _ _ _ _ _ c.from_residual.ensures.0 (saw_here _ (g.met.D.Door.none _) _) is c.requires.here

pub begin-requires-clause-next : goal.begin-requires-clause-next
begin-requires-clause-next g c = ap events.Begin c.in_ok-wanted-in-Begin.ensures ∙ (ap event_of (sym c.in-Begin.is) ∙ c.requires.next)

pub call_step-requires-clause-next : goal.call_step-requires-clause-next
call_step-requires-clause-next g c = ap event_of (sym c.in-Call.is) ∙ c.requires.next

pub returns-in-Exit-clause-turned : goal.returns-in-Exit-clause-turned
returns-in-Exit-clause-turned g c = λ k b stands begins is are q.
    c.leave.ensures.turned k b _ _ _ stands begins is are (exits_by_script b _ _ _ _ _ _ _
    (going_on b _ _ _ _ _ _ _ is are c.requires.here c.requires.stays c.requires.reading q) _ (ap event_of (sym c.in-Exit.is) ∙ c.requires.next))

pub returns-in_ok-wanted-in-Begin-clause-turned : goal.returns-in_ok-wanted-in-Begin-clause-turned
returns-in_ok-wanted-in-Begin-clause-turned g c = λ k b stands begins is are q. c.begin.ensures.turned k b _ _ _ stands begins is are q

use Rattle.con_events.specs.declared.call.Call.TheVariants as calls
use Rattle.con_actors.specs.DoorGoing.{going_on, refused, removed, rested}
use Rattle.con_actors.specs.WorkerLaws.{call_ready}
use Rattle.con_actors.proofs.step.call_remove.Goals as goal

pub enter-requires-clause-ready : goal.enter-requires-clause-ready
enter-requires-clause-ready g c = λ s. call_ready s _ _

pub returns-in_err-brief-clause-turned : goal.returns-in_err-brief-clause-turned
returns-in_err-brief-clause-turned g c = λ k b stands begins is are q.
    rested _ b _ (g.met.D.Door.others c.args.p) _ _ _ _ _ _ _ _ c.from_residual.ensures.0 (c.in_err-brief.ensures.refused k stands) is c.requires.here

pub returns-then-not-is_granted-clause-turned : goal.returns-then-not-is_granted-clause-turned
returns-then-not-is_granted-clause-turned g c = λ k b stands begins is are q. refused _ b _ (g.met.D.Door.others c.args.p) _ _ _
    (calls.HandlerRemove c.args.place) _ _ _ _ _ c.if-not-is_granted.ensures (c.in_ok-brief.ensures.entered k b.state stands begins)
    (going_on b _ _ _ _ _ _ _ is are c.requires.here c.requires.stays c.requires.reading q) c.requires.next

pub returns-clause-turned : goal.returns-clause-turned
returns-clause-turned g c = λ k b stands begins is are q. rw c.remove.ensures.rack (removed _ b _
    (g.met.D.Door.others c.args.p) _ _ _ c.args.place _ _ _ _ _ _ _ c.if-not-is_granted.ensures (c.in_ok-brief.ensures.entered k b.state stands begins)
    (going_on b _ _ _ _ _ _ _ is are c.requires.here c.requires.stays c.requires.reading q) c.requires.next c.remove.ensures.removed)

use Rattle.con_actors.specs.DoorGoing.{called, going_on, rested}
use Rattle.con_actors.specs.WorkerLaws.{call_ready}
use Rattle.con_actors.proofs.step.call_plain.Goals as goal

pub enter-requires-clause-ready : goal.enter-requires-clause-ready
enter-requires-clause-ready g c = λ s. call_ready s _ _

pub returns-in_err-enter-clause-turned : goal.returns-in_err-enter-clause-turned
returns-in_err-enter-clause-turned g c = λ k b places ms slots stands begins is are q.
    rested _ b _ (g.met.D.Door.others c.args.p) _ _ _ _ _ _ _ _ c.from_residual.ensures.0 (c.in_err-enter.ensures.refused k stands) is c.requires.here

pub returns-clause-turned : goal.returns-clause-turned
returns-clause-turned g c = λ k b places ms slots stands begins is are q.
    called _ b _ (g.met.D.Door.others c.args.p) _ _ _ _ _ _ _ _ _ c.requires.plain (c.in_ok-enter.ensures.entered k b.state stands begins)
    (going_on b _ _ _ _ _ _ _ is are c.requires.here c.requires.stays c.requires.reading q) c.requires.next

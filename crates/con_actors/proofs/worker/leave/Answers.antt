use Rattle.con_actors.specs.DoorGoing.{exited, rested}
use Rattle.con_actors.specs.WorkerLaws.{exit_ready}
use Rattle.con_actors.proofs.worker.leave.Goals as goal

pub enter-requires-clause-ready : goal.enter-requires-clause-ready
enter-requires-clause-ready g c = λ s. exit_ready s _ _

pub returns-in_err-enter-clause-turned : goal.returns-in_err-enter-clause-turned
returns-in_err-enter-clause-turned g c = λ k b places ms slots stands begins is are m.
    rested _ b _ (g.met.D.Door.others c.args.p) _ _ _ _ _ _ _ _ c.from_residual.ensures.0 (c.in_err-enter.ensures.refused k stands) is c.requires.here

pub returns-clause-turned : goal.returns-clause-turned
returns-clause-turned g c = λ k b places ms slots stands begins is are m.
    exited _ b _ (g.met.D.Door.others c.args.p) _ _ _ _ _ _ _ _ _ (c.in_ok-enter.ensures.entered k b.state stands begins) is m are

use Rattle.con_actors.specs.DoorGoing.{collected, rested, waited}
use Rattle.con_actors.proofs.worker.collect.Goals as goal

pub returns-in_err-enter_if_ready-clause-turned : goal.returns-in_err-enter_if_ready-clause-turned
returns-in_err-enter_if_ready-clause-turned g c = λ k b places ms slots stands begins is are q.
    rested _ b _ (g.met.D.Door.others c.args.p) _ _ _ _ _ _ _ _ c.from_residual.ensures.0 (c.in_err-enter_if_ready.ensures.refused k stands) is c.requires.here

pub returns-in-None-clause-turned : goal.returns-in-None-clause-turned
returns-in-None-clause-turned g c = λ k b places ms slots stands begins is are q.
    let e = rw c.in-None.is at c.in_ok-enter_if_ready.ensures.blocked in
    waited _ b _ (g.met.D.Door.others c.args.p) _ _ _ _ _ _ _ (e k b.state stands begins).0
    (e k b.state stands begins).1 is c.requires.here c.requires.stays c.requires.reading q are

pub returns-in-Some-clause-turned : goal.returns-in-Some-clause-turned
returns-in-Some-clause-turned g c = λ k b places ms slots stands begins is are q.
    let e = rw c.in-Some.is at c.in_ok-enter_if_ready.ensures.entered in
    collected _ b _ (g.met.D.Door.others c.args.p) _ _ _ _ _ _ _ _ (e k b.state stands begins) is c.requires.here c.requires.stays c.requires.reading q are

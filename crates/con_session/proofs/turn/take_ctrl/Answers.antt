use Rattle.std.proofs.Common.{ap}
use Rattle.con_actors.specs.DoorGoing.{looked, took, took_none, untaken}
use Rattle.con_actors.specs.WorkerLaws.{IsEvent}
use Rattle.con_session.proofs.turn.take_ctrl.Goals as goal

pub returns-in_err-brief-clause-taken : goal.returns-in_err-brief-clause-taken
returns-in_err-brief-clause-taken g c = λ k b stands begins is are.
    untaken _ b _ (g.met.D.Door.others c.args.p) _ _ _ _ _ _ _ _ c.from_residual.ensures.0 (c.in_err-brief.ensures.refused k stands) is c.requires.here

pub returns-in_default-clause-taken : goal.returns-in_default-clause-taken
returns-in_default-clause-taken g c = λ k b stands begins is are. let e = rw c.in_default.is at c.in_ok-brief.ensures.blocked in
    looked _ b _ (g.met.D.Door.others c.args.p) _ _ _ _ _ _ _ (e k b.state stands begins) is are

pub returns-in-Ctrl-clause-taken : goal.returns-in-Ctrl-clause-taken
returns-in-Ctrl-clause-taken g c = λ k b stands begins is are.
    let e = rw c.in-Some.is at c.in_ok-brief.ensures.entered in
    rw c.deliver-handled.ensures.rack (took _ b _ (g.met.D.Door.others c.args.p) _ _ _ _ _ c.in-Ctrl.event _ _ _ _ _ _ _ c.must_leave-worker.ensures
    (e k b.state stands begins) c.in-Ctrl.is is c.requires.here c.requires.stays are c.deliver-handled.ensures.handled)

pub returns-in-Fine-clause-taken : goal.returns-in-Fine-clause-taken
returns-in-Fine-clause-taken g c = λ k b stands begins is are.
    let e = rw c.in-Some.is at c.in_ok-brief.ensures.entered in
    took_none _ b _ (g.met.D.Door.others c.args.p) _ _ _ _ _ _ _ _ (e k b.state stands begins) (ap IsEvent c.in-Fine.is) is c.requires.here c.requires.stays are

pub returns-in-Refused-clause-taken : goal.returns-in-Refused-clause-taken
returns-in-Refused-clause-taken g c = λ k b stands begins is are.
    let e = rw c.in-Some.is at c.in_ok-brief.ensures.entered in
    took_none _ b _ (g.met.D.Door.others c.args.p) _ _ _ _ _ _ _ _ (e k b.state stands begins)
    (ap IsEvent c.in-Refused.is) is c.requires.here c.requires.stays are

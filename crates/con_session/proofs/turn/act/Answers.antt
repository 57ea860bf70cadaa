use Rattle.std.proofs.Common.{◌∙◌, ap}
use Rattle.con_actors.specs.DoorGoing.{exits_by_ctrl, then_turned}
use Rattle.con_actors.specs.declared.worker.Worker.{Worker}
use Rattle.con_session.proofs.turn.act.Goals as goal

pub returns-then-worker-clause-turned : goal.returns-then-worker-clause-turned
returns-then-worker-clause-turned g c =
    λ k b stands begins is are. c.leave.ensures.turned k b _ _ _ stands begins is are (exits_by_ctrl b _ _ _ _ is c.requires.here c.if-worker.true)

pub collect-requires-clause-here : goal.collect-requires-clause-here
collect-requires-clause-here g c = ap (λ (x : Worker). x.gone) (c.in_ok-take_ctrl.ensures.none c.if-branch.false) ∙ c.requires.here

pub collect-requires-clause-stays : goal.collect-requires-clause-stays
collect-requires-clause-stays g c = ap (λ (x : Worker). x.leaving) (c.in_ok-take_ctrl.ensures.none c.if-branch.false) ∙ c.if-worker.false

pub next_step-requires-clause-here : goal.next_step-requires-clause-here
next_step-requires-clause-here g c = λ _ _. ap (λ (x : Worker). x.gone) (c.in_ok-take_ctrl.ensures.none c.if-branch.false) ∙ c.requires.here

pub next_step-requires-clause-stays : goal.next_step-requires-clause-stays
next_step-requires-clause-stays g c = λ _ _. ap (λ (x : Worker). x.leaving) (c.in_ok-take_ctrl.ensures.none c.if-branch.false) ∙ c.if-worker.false

pub returns-then-worker-2-clause-turned : goal.returns-then-worker-2-clause-turned
returns-then-worker-2-clause-turned g c = λ k b stands begins is are.
    let t = rw c.if-branch.false at c.in_ok-take_ctrl.ensures.taken k b stands begins is are in
    then_turned _ b _ (g.met.D.Door.others c.args.p) _ (g.met.D.Door.joins _) _ _ _ _ _ _ _ _ t.0
    (c.collect.ensures.turned k b _ _ _ (c.take_ctrl.ensures.stands k stands) begins t.2 t.3 t.1)

pub returns-clause-turned : goal.returns-clause-turned
returns-clause-turned g c = λ k b stands begins is are.
    let t = rw c.if-branch.false at c.in_ok-take_ctrl.ensures.taken k b stands begins is are in
    then_turned _ b _ (g.met.D.Door.others c.args.p) _ (g.met.D.Door.joins _) _ _ _ _ _ _ _ _ t.0
    (c.next_step.ensures.turned k b (c.take_ctrl.ensures.stands k stands) begins t.2 t.3 t.1)

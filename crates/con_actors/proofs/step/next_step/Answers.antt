use Rattle.con_actors.specs.DoorGoing.{exits_by_script, going_on, next_at, next_exit}
use Rattle.con_actors.proofs.step.next_step.Goals as goal

pub one_step-done-requires-clause-next : goal.one_step-done-requires-clause-next
one_step-done-requires-clause-next g c = next_at _ c.args.worker.now _ c.if-at-steps.false c.index-steps-at.is

pub returns-then-at-steps-clause-turned : goal.returns-then-at-steps-clause-turned
returns-then-at-steps-clause-turned g c = λ k b stands begins is are q.
    c.leave.ensures.turned k b _ _ _ stands begins is are (exits_by_script b _ _ _ _ _ _ _
    (going_on b _ _ _ _ _ _ _ is are c.requires.here c.requires.stays c.requires.reading q) _ (next_exit _ c.args.worker.now c.if-at-steps.true))

use Rattle.con_threads.specs.Post.{others}
use Rattle.con_run.proofs.Serving.{served_waits}
use Rattle.con_run.proofs.work.client.act.Goals as goal

pub returns-in-Ok-false : goal.returns-in-Ok-false
returns-in-Ok-false g c =
    let t = rw c.in-Ok-false.is at c.turn.ensures.turned in
    let u = rw c.in-Ok-false.field-0-test at t in
    record {
      served = served_waits _ _ _ (others _) c.requires.is c.if-client.false c.if-client-2.false
          (record { same = c.turn.ensures.same; scribe = c.turn.ensures.scribe; steps = c.turn.ensures.rest.0; number = c.turn.ensures.rest.1 }) u;
    }

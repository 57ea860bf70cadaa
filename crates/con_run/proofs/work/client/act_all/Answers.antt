use Rattle.std.proofs.Common.{◌∙◌}
use Rattle.con_run.proofs.work.client.act_all.Goals as goal

pub act-requires-clause-book : goal.act-requires-clause-book
act-requires-clause-book g c = λ _ _. c.loop.invariant.0.same.pass.0 ∙ c.requires.book

pub act-requires-clause-is : goal.act-requires-clause-is
act-requires-clause-is g c = λ _ _. c.loop.invariant.0.is

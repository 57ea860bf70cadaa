use Rattle.std.proofs.Common.{rules}
use Rattle.std.proofs.lemmas.Result.{IfOk-weaker}
use Rattle.con_sessions.proofs.Generations.{made_by}
use Rattle.con_sessions.proofs.generating.run.Goals as goal

pub returns : goal.returns
returns c =
    let done = c.is_done.ensures c.if-not-is_done.false in
    let drawn = c.in_ok-session.ensures in
    IfOk-weaker c.finished.result _ _ (λ made h. made_by _ _ _ _ _ _ _ _ _ _ _ _ _ _ drawn (search rules) done (search rules) (search rules) c.run_solo-outcome.ensures.outcome c.into_vec.ensures h c.each_record_is_taken_once.ensures.session) c.finished.ensures

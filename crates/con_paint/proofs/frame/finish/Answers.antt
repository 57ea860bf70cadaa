-- A place, and then the cursor's turn.
use Rattle.std.proofs.Common.{◌∙◌}
use Rattle.con_paint.proofs.PlaceLemmas.{finished}
use Rattle.con_paint.proofs.frame.finish.Goals as goal

pub returns-clause-placed : goal.returns-clause-placed
returns-clause-placed c = λ s a b d e at. finished _ _ _ s c.args.known c.args.hidden c.must_turn-turn.result c.args.was c.args.spot c.settle-end.result c.args.caret c.settle-end.ensures.spot c.must_turn-turn.ensures.hidden c.must_turn-turn.ensures.seen a b d e at (c.settle-end.ensures.leads s b at) c.turn_if.ensures.leads

pub returns-clause-quiet : goal.returns-clause-quiet
returns-clause-quiet c = λ k h v p. c.turn_if.ensures.quiet (c.must_turn-turn.ensures.quiet k h v) ∙ c.settle-end.ensures.quiet p

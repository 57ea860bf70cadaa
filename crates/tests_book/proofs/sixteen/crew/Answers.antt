use Rattle.std.proofs.Common.{rules}
use Rattle.con_book.specs.Laws.{has_pass-above}
use Rattle.tests_book.proofs.sixteen.crew.Goals as goal

pub pass-requires-clause-fresh : goal.pass-requires-clause-fresh
pass-requires-clause-fresh c = has_pass-above c.loop-actor.actor c.loop-actor.opening.seat.me.0 (search rules) c.loop-actor.invariant.below

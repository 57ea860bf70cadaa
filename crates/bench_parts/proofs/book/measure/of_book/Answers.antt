use Rattle.std.proofs.Common.{rules}
use Rattle.con_book.specs.Laws.{has_pass-above}
use Rattle.bench_parts.proofs.book.measure.of_book.Goals as goal

pub pass-pass-requires-clause-fresh : goal.pass-pass-requires-clause-fresh
pass-pass-requires-clause-fresh g c = has_pass-above c.loop-actor.actor c.loop-actor.pass.seat.me.0 (search rules) c.loop-actor.invariant.2

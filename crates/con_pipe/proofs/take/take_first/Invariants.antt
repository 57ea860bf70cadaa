use Rattle.std.proofs.Common.{◌≡◌}
use Rattle.rtrb.specs.Ring.{received, SameConsumer}
use Rattle.con_pipe.proofs.take.take_first.Given as goal

abbrev pub invariant-loop : goal.invariant-loop
invariant-loop g l = SameConsumer l.fn.consumer l.consumer × (received l.consumer ≡ received l.fn.consumer)

use Rattle.std.proofs.Common.{◌≡◌}
use Rattle.rtrb.specs.Ring.{sent, SameProducer}
use Rattle.con_pipe.proofs.put.put_last.Given as goal

abbrev pub invariant-loop : goal.invariant-loop
invariant-loop g l = SameProducer l.fn.producer l.producer × (sent l.producer ≡ sent l.fn.producer) × (l.item ≡ l.fn.item)

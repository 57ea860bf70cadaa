-- The passes of the clients so far were taken in.
use Rattle.std.specs.Vec.Iter.{into_iter_items}
use Rattle.con_run.proofs.Taking.{Gathers}
use Rattle.con_run.proofs.gather.gather.Given as goal

abbrev pub invariant-loop-client : goal.invariant-loop-client
invariant-loop-client g l =
    Gathers (λ c. c.scribe.pass) (λ c. c.seat.worker.gone) (λ c. c.broken) l.fn.into l.into l.all (into_iter_items l.client-iterator) l.fn.crew.items

-- The client has followed its script further.
use Rattle.con_threads.specs.Clients.{HasServed}
use Rattle.con_run.proofs.work.client.act_all.Given as goal

abbrev pub invariant-loop : goal.invariant-loop
invariant-loop g l =
    HasServed (λ z. (goal.CtrlHandler-dyn g z).memory z.1) l.fn.client l.client
    × (goal.iterator-loop g).can_next l.iterator' × (goal.iterator-loop g).is_finite l.iterator'

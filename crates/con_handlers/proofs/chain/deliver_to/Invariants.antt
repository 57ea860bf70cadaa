-- Those from `at` on were asked, and none answered true.
use Rattle.con_handlers.proofs.Asking.{Asked}
use Rattle.con_handlers.proofs.chain.deliver_to.Given as goal

abbrev pub invariant-loop-at : goal.invariant-loop-at
invariant-loop-at g l =
    Asked (λ b. (goal.CtrlHandler-dyn g (b.vtable, b.value)).will b.value l.event)
    (λ b. (goal.CtrlHandler-dyn g (b.vtable, b.value)).memory b.value) l.event l.fn.handlers l.handlers l.at

abbrev pub decreases-loop-at : goal.decreases-loop-at
decreases-loop-at g l = l.at

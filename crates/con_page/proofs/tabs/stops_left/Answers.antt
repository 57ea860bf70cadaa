use Rattle.std.proofs.Common.{arith}
use Rattle.con_page.specs.Effect as now
use Rattle.con_page.proofs.TabLemmas.{stays_there}
use Rattle.con_page.proofs.tabs.stops_left.Goals as goal

pub returns-then-next-at-clause-stop : goal.returns-then-next-at-clause-stop
returns-then-next-at-clause-stop c =
    stays_there (now.tab_left c.args.tabs.now) c.args.at c.loop-k.at c.stop_left-next.result c.loop-k.k c.args.n c.loop-k.invariant.0 c.stop_left-next.ensures.stop c.if-next-at.true (omega arith)

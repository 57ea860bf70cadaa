use Rattle.std.proofs.Common.{length, arith}
use Rattle.con_page.specs.Effect as now
use Rattle.con_page.proofs.TabLemmas.{stays_there}
use Rattle.con_page.proofs.tabs.stops_right.Goals as goal

pub returns-then-next-at-clause-stop : goal.returns-then-next-at-clause-stop
returns-then-next-at-clause-stop c =
    stays_there (now.tab_right c.args.tabs.now (length c.args.tabs.now)) c.args.at c.loop-k.at c.stop_right-next.result c.loop-k.k c.args.n c.loop-k.invariant.0 c.stop_right-next.ensures.stop c.if-next-at.true (omega arith)

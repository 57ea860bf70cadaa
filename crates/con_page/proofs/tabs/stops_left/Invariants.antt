-- The stops so far.
use Rattle.std.proofs.Common.{◌≡◌, ◌<◌, length}
use Rattle.con_page.specs.Effect as now
use Rattle.con_page.proofs.tabs.stops_left.Given as goal

abbrev pub invariant-loop-k : goal.invariant-loop-k
invariant-loop-k l = (l.at ≡ now.times l.k (now.tab_left l.tabs) l.fn.at) × (l.at < length l.tabs)

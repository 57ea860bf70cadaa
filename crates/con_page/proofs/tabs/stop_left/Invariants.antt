-- No stop so far.
use Rattle.std.proofs.Common.{◌≡◌, ◌≤◌}
use Rattle.con_page.specs.Effect as now
use Rattle.con_page.proofs.tabs.stop_left.Given as goal

abbrev pub invariant-loop-x : goal.invariant-loop-x
invariant-loop-x l = (now.tab_left l.tabs l.x ≡ now.tab_left l.tabs l.fn.at) × (l.x ≤ l.fn.at)

abbrev pub decreases-loop-x : goal.decreases-loop-x
decreases-loop-x l = l.x

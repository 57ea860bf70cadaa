-- No stop so far.
use Rattle.std.proofs.Common.{◌≡◌, ◌<◌, ◌-◌, length}
use Rattle.con_page.specs.Effect as now
use Rattle.con_page.proofs.tabs.stop_right.Given as goal

abbrev pub invariant-loop-x : goal.invariant-loop-x
invariant-loop-x l = (now.tab_right l.tabs (length l.tabs) l.x ≡ now.tab_right l.tabs (length l.tabs) l.fn.at) × (l.x < length l.tabs)

abbrev pub decreases-loop-x : goal.decreases-loop-x
decreases-loop-x l = length l.tabs - l.x

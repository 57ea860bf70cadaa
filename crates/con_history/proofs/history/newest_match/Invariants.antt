-- No line from here on begins so.
use Rattle.std.proofs.Common.{◌≡◌, ◌≤◌, ◌-◌}
use Rattle.con_history.specs.Histories.{last_that_begins}
use Rattle.con_history.proofs.history.newest_match.Given as goal

abbrev pub invariant-loop-k : goal.invariant-loop-k
invariant-loop-k l = record {
  low : l.low ≤ l.k;
  high : l.k ≤ l.high;
  same : last_that_begins l.start l.lines.items l.low (l.k - l.low) ≡ last_that_begins l.start l.lines.items l.low (l.high - l.low);
}

abbrev pub decreases-loop-k : goal.decreases-loop-k
decreases-loop-k l = l.k - l.low

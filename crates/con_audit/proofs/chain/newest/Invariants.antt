-- The newest stands in a front.
use Rattle.std.proofs.Common.{◌≡◌, ◌≤◌, take, length}
use Rattle.con_audit.proofs.ChainLemmas.{newest_of}
use Rattle.con_audit.proofs.chain.newest.Given as goal

abbrev pub invariant-loop-at : goal.invariant-loop-at
invariant-loop-at l = (l.at ≤ length l.links) × (newest_of l.event (take l.at l.links) ≡ newest_of l.event l.links)

abbrev pub decreases-loop-at : goal.decreases-loop-at
decreases-loop-at l = l.at

-- The bytes so far.
use Rattle.std.proofs.Common.{◌≡◌, ◌≤◌, ◌-◌, true, take, length}
use Rattle.std.specs.List.{list_all}
use Rattle.con_term.specs.Ends.{is_end, feeds_in}
use Rattle.con_term.proofs.ends.ends_at_front.Given as goal

abbrev pub invariant-loop-count : goal.invariant-loop-count
invariant-loop-count l = (l.count ≤ length l.bytes) × (list_all is_end (take l.count l.bytes) ≡ true) × (l.feeds ≤ l.count) × (l.feeds ≡ feeds_in (take l.count l.bytes))

abbrev pub decreases-loop-count : goal.decreases-loop-count
decreases-loop-count l = length l.bytes - l.count

-- The units so far.
use Rattle.std.proofs.Common.{◌≡◌, ◌≤◌, ◌-◌, true, take, length}
use Rattle.std.specs.List.{list_all}
use Rattle.con_page.specs.Ends.{is_end, feeds_in}
use Rattle.con_page.proofs.ends.ends_at_front.Given as goal

abbrev pub invariant-loop-count : goal.invariant-loop-count
invariant-loop-count l = (l.count ≤ length l.units) × (list_all is_end (take l.count l.units) ≡ true) × (l.feeds ≤ l.count) × (l.feeds ≡ feeds_in (take l.count l.units))

abbrev pub decreases-loop-count : goal.decreases-loop-count
decreases-loop-count l = length l.units - l.count

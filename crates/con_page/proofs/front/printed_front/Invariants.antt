-- The units so far are printed.
use Rattle.std.proofs.Common.{◌≡◌, ◌≤◌, ◌-◌, true, take}
use Rattle.std.specs.List.{list_all}
use Rattle.con_page.specs.Run.{is_printed}
use Rattle.con_page.proofs.front.printed_front.Given as goal

abbrev pub invariant-loop-count : goal.invariant-loop-count
invariant-loop-count l = (l.count ≤ l.end) × (list_all is_printed (take l.count l.units) ≡ true)

abbrev pub decreases-loop-count : goal.decreases-loop-count
decreases-loop-count l = l.end - l.count

-- what is left of the lines, from the next gap on, tells of all
use Rattle.std.proofs.Common.{◌≤◌, ◌↔◌, length, map, drop}
use Rattle.case_lines.specs.Wanted.{from_gap, IsAsWanted}
use Rattle.case_lines.proofs.wanted.first_difference.Given as goal

abbrev pub invariant-loop-number : goal.invariant-loop-number
invariant-loop-number l =
    (l.at ≤ length l.lines)
    × (IsAsWanted l.way l.wanted (map (λ r. r.now) l.lines) ↔ IsAsWanted l.way (from_gap (drop l.number l.wanted)) (map (λ r. r.now) (drop l.at l.lines)))

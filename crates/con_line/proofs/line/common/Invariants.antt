use Rattle.std.proofs.Common.{◌≡◌, ◌≤◌, ◌+◌, ◌-◌, length, drop}
use Rattle.con_units.specs.Words.Units.{first_difference}
use Rattle.con_line.proofs.line.common.Given as goal

abbrev pub invariant-loop-i : goal.invariant-loop-i
invariant-loop-i l = (l.i ≤ length l.old) × (l.i ≤ length l.new) × (l.i + first_difference (drop l.i l.old) (drop l.i l.new) ≡ first_difference l.old l.new)

abbrev pub decreases-loop-i : goal.decreases-loop-i
decreases-loop-i l = length l.old - l.i

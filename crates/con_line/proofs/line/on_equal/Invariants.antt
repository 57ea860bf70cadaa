use Rattle.std.proofs.Common.{◌≡◌, ◌≤◌, ◌-◌, ◌==◌, length}
use Rattle.con_line.specs.Line.{on_while}
use Rattle.con_line.proofs.line.on_equal.Given as goal

abbrev pub invariant-loop-i : goal.invariant-loop-i
invariant-loop-i l = (l.i ≤ length l.units) × (on_while (λ u. u == l.unit) l.units l.i ≡ on_while (λ u. u == l.unit) l.units l.from)

abbrev pub decreases-loop-i : goal.decreases-loop-i
decreases-loop-i l = length l.units - l.i

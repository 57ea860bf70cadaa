use Rattle.std.proofs.Common.{◌≡◌, ◌≤◌, ◌-◌, cond, length}
use Rattle.con_units.specs.Units.{is_space, is_other}
use Rattle.con_line.specs.Line.{on_while}
use Rattle.con_line.proofs.line.on_over.Given as goal

abbrev pub invariant-loop-i : goal.invariant-loop-i
invariant-loop-i l = (l.i ≤ length l.units) × (cond l.spaces (on_while is_space l.units l.i) (on_while is_other l.units l.i) ≡ cond l.spaces (on_while is_space l.units l.from) (on_while is_other l.units l.from))

abbrev pub decreases-loop-i : goal.decreases-loop-i
decreases-loop-i l = length l.units - l.i

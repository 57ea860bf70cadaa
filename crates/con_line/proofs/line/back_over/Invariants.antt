use Rattle.std.proofs.Common.{◌≡◌, ◌≤◌, cond}
use Rattle.con_units.specs.Units.{is_space, is_other}
use Rattle.con_line.specs.Line.{back_while}
use Rattle.con_line.proofs.line.back_over.Given as goal

abbrev pub invariant-loop-i : goal.invariant-loop-i
invariant-loop-i l = (l.i ≤ l.from) × (cond l.spaces (back_while is_space l.units l.i) (back_while is_other l.units l.i) ≡ cond l.spaces (back_while is_space l.units l.from) (back_while is_other l.units l.from))

abbrev pub decreases-loop-i : goal.decreases-loop-i
decreases-loop-i l = l.i

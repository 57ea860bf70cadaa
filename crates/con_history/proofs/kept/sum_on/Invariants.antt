-- The units so far.
use Rattle.std.proofs.Common.{◌≡◌, fold, take}
use Rattle.con_history.specs.Sums.{next_sum}
use Rattle.con_history.proofs.kept.sum_on.Given as goal

abbrev pub invariant-loop-i : goal.invariant-loop-i
invariant-loop-i l = l.after ≡ fold next_sum l.fn.sum (take l.i l.units)

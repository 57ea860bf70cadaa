-- The last cells.
use Rattle.std.proofs.Common.{◌≡◌, ◌-◌, drop, length}
use Rattle.con_paint.proofs.span.end_of_differences.Given as goal

abbrev pub invariant-loop-k : goal.invariant-loop-k
invariant-loop-k l = drop (length l.row - l.k) l.row ≡ drop (length l.row - l.k) l.was

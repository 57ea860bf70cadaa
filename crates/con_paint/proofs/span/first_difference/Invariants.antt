-- The cells so far.
use Rattle.std.proofs.Common.{◌≡◌, take}
use Rattle.con_paint.proofs.span.first_difference.Given as goal

abbrev pub invariant-loop-i : goal.invariant-loop-i
invariant-loop-i l = take l.i l.row ≡ take l.i l.was

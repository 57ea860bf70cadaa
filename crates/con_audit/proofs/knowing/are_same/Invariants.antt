-- The cells so far are the same.
use Rattle.std.proofs.Common.{◌≡◌, take}
use Rattle.con_audit.proofs.knowing.are_same.Given as goal

abbrev pub invariant-loop-at : goal.invariant-loop-at
invariant-loop-at l = take l.at l.cells ≡ take l.at l.others

use Rattle.std.proofs.Common.{◌≡◌, take}
use Rattle.con_mirror.proofs.part.are_same.Given as goal

abbrev pub invariant-loop-x : goal.invariant-loop-x
invariant-loop-x l = take l.x l.a ≡ take l.x l.b

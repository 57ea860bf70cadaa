-- The texts so far are the same.
use Rattle.std.proofs.Common.{◌≡◌, take}
use Rattle.con_copies.proofs.same.same_texts.Given as goal

abbrev pub invariant-loop-at : goal.invariant-loop-at
invariant-loop-at l = take l.at l.a ≡ take l.at l.b

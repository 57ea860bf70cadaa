use Rattle.std.proofs.Common.{◌≡◌, ◌++◌, replicate, None, vec_capacity}
use Rattle.con_screens.proofs.screens.Screens.new.Given as goal

abbrev pub invariant-loop-k : goal.invariant-loop-k
invariant-loop-k l = (l.slots.items ≡ l.initial.slots.items ++ replicate l.k None) × (vec_capacity l.slots ≡ vec_capacity l.initial.slots)

use Rattle.std.proofs.Common.{◌≡◌, ◌-◌, ◌++◌, take, drop, replicate}
use Rattle.con_grid.proofs.stamps.write.Given as goal

abbrev pub invariant-loop-at : goal.invariant-loop-at
invariant-loop-at l = l.rows ≡ take l.from l.fn.rows ++ (replicate (l.at - l.from) l.number ++ drop l.at l.fn.rows)

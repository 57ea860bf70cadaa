use Rattle.std.proofs.Common.{◌≡◌, take, drop}
use Rattle.std.proofs.Math.Seq.{paste}
use Rattle.con_screens.proofs.view.read_row.Given as goal

abbrev pub invariant-loop-x : goal.invariant-loop-x
invariant-loop-x l = l.cells ≡ paste l.fn.cells l.from (take l.n (drop l.at l.grid.cells)) l.x

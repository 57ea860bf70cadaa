use Rattle.con_mirror.proofs.RowLemmas.{Renewed}
use Rattle.con_mirror.proofs.part.renew_rows.Given as goal

abbrev pub invariant-loop-y : goal.invariant-loop-y
invariant-loop-y l = Renewed l.view l.corner.left l.corner.top l.fn.size.w l.y l.cells l.fn.cells l.marks l.fn.size.h

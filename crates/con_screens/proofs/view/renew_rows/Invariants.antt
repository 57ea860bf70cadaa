use Rattle.std.proofs.Common.{◌≡◌}
use Rattle.con_screens.proofs.ViewLemmas.{renewed_so}
use Rattle.con_screens.proofs.view.renew_rows.Given as goal

abbrev pub invariant-loop-y : goal.invariant-loop-y
invariant-loop-y l = l.cells ≡ renewed_so l.grid l.left l.top l.fn.size.w l.y l.fn.cells

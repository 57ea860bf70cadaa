use Rattle.std.proofs.Common.{◌≡◌, vec_capacity}
use Rattle.con_screens.specs.View.{rows_in}
use Rattle.con_screens.proofs.ViewLemmas.{read_so}
use Rattle.con_screens.proofs.view.read_window.Given as goal

abbrev pub invariant-loop-y : goal.invariant-loop-y
invariant-loop-y l = (l.out.items ≡ rows_in l.grid.width l.grid.cells l.left l.top l.w l.y) × (vec_capacity l.out ≡ vec_capacity l.fn.out)

abbrev pub invariant-loop-x : goal.invariant-loop-x
invariant-loop-x l = (l.out.items ≡ read_so l.grid l.left l.top l.w l.x l.y) × (vec_capacity l.out ≡ vec_capacity l.fn.out)

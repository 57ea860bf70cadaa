-- The rows so far.
use Rattle.std.proofs.Common.{◌≡◌, ◌≤◌}
use Rattle.con_paint.specs.Frame.{rows_to_paint}
use Rattle.con_paint.proofs.ChecksumLemmas.{Renewed}
use Rattle.con_paint.proofs.lift.count_rows.Given as goal

abbrev pub invariant-loop-y : goal.invariant-loop-y
invariant-loop-y l = (l.count ≡ rows_to_paint l.known l.fn.size.w l.y l.cells l.shadow) × (l.count ≤ l.y) × Renewed l.known l.fn.size.w l.fn.size.h l.y l.cells l.shadow l.fn.sums l.sums

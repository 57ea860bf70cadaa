-- The rows so far.
use Rattle.std.proofs.Common.{◌≡◌, ◌*◌}
use Rattle.con_paint.specs.Frame.{mixed}
use Rattle.con_paint.proofs.painter.keep_rows.Given as goal

abbrev pub invariant-loop-y : goal.invariant-loop-y
invariant-loop-y l = l.shadow ≡ mixed l.cells l.fn.shadow (l.y * l.fn.size.w)

-- The rows so far.
use Rattle.std.proofs.Common.{◌≡◌, ◌+◌, ◌*◌, ◌≤◌}
use Rattle.std.specs.Vec.{vec_len, vec_capacity}
use Rattle.con_paint.specs.Frame.{Rows}
use Rattle.con_paint.proofs.rows.first_rows.Given as goal

abbrev pub invariant-loop-y : goal.invariant-loop-y
invariant-loop-y l = Rows l.fn.size.w l.fn.size.h l.cells l.shadow l.known l.fn.before l.fn.out.items l.out.items l.y l.state × (vec_capacity l.out ≡ vec_capacity l.fn.out) × (vec_len l.out ≤ vec_len l.fn.out + l.y * (11 + 57 * l.fn.size.w))

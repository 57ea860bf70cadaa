-- The columns so far.
use Rattle.std.proofs.Common.{◌≡◌, ◌+◌, ◌-◌, ◌*◌, ◌≤◌}
use Rattle.std.specs.Vec.{vec_len, vec_capacity}
use Rattle.con_paint.specs.Columns.{FirstColumns}
use Rattle.con_paint.proofs.columns.columns.Given as goal

abbrev pub invariant-loop-x : goal.invariant-loop-x
invariant-loop-x l = FirstColumns l.known l.row l.was l.fn.y l.fn.from l.reached.columns l.fn.before l.fn.out.items l.out.items l.reached.state × (vec_capacity l.out ≡ vec_capacity l.fn.out) × (vec_len l.out ≤ vec_len l.fn.out + 57 * (l.reached.columns - l.fn.from)) × (l.x ≤ l.reached.columns) × (l.reached.columns ≤ l.upto) × (l.fn.from ≤ l.reached.columns)

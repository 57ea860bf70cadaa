use Rattle.std.proofs.Common.{◌+◌, ◌*◌, ◌≤◌}
use Rattle.con_rects.specs.Moves.{move_rule}
use Rattle.con_rects.proofs.DrawLemmas.{DoneFrom, flat}
use Rattle.con_rects.proofs.scroll.move_on.Given as goal

abbrev pub invariant-loop-y : goal.invariant-loop-y
invariant-loop-y l = (l.to.top ≤ l.y) × (l.y ≤ l.to.bottom) × DoneFrom l.fn.grid l.grid (flat l.fn.grid (move_rule l.fn.grid l.to l.shift)) (l.y * l.fn.grid.width)

abbrev pub decreases-loop-y : goal.decreases-loop-y
decreases-loop-y l = l.y

abbrev pub invariant-loop-x : goal.invariant-loop-x
invariant-loop-x l = (l.to.left ≤ l.x) × (l.x ≤ l.to.right) × DoneFrom l.fn.grid l.grid (flat l.fn.grid (move_rule l.fn.grid l.to l.shift)) (l.y * l.fn.grid.width + l.x)

abbrev pub decreases-loop-x : goal.decreases-loop-x
decreases-loop-x l = l.x

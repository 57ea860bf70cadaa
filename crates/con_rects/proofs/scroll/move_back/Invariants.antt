use Rattle.std.proofs.Common.{◌+◌, ◌*◌}
use Rattle.con_rects.specs.Moves.{move_rule}
use Rattle.con_rects.proofs.DrawLemmas.{DoneBefore, flat}
use Rattle.con_rects.proofs.scroll.move_back.Given as goal

abbrev pub invariant-loop-y : goal.invariant-loop-y
invariant-loop-y l = DoneBefore l.fn.grid l.grid (flat l.fn.grid (move_rule l.fn.grid l.to l.shift)) (l.y * l.fn.grid.width)

abbrev pub invariant-loop-x : goal.invariant-loop-x
invariant-loop-x l = DoneBefore l.fn.grid l.grid (flat l.fn.grid (move_rule l.fn.grid l.to l.shift)) (l.y * l.fn.grid.width + l.x)

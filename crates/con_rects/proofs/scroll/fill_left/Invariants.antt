use Rattle.std.proofs.Common.{◌+◌, ◌*◌}
use Rattle.con_rects.specs.Moves.{free_rule}
use Rattle.con_rects.proofs.DrawLemmas.{DoneBefore, flat}
use Rattle.con_rects.proofs.scroll.fill_left.Given as goal

abbrev pub invariant-loop-y : goal.invariant-loop-y
invariant-loop-y l = DoneBefore l.fn.grid l.grid (flat l.fn.grid (free_rule l.fn.grid l.from l.to l.fill)) (l.y * l.fn.grid.width)

abbrev pub invariant-loop-x : goal.invariant-loop-x
invariant-loop-x l = DoneBefore l.fn.grid l.grid (flat l.fn.grid (free_rule l.fn.grid l.from l.to l.fill)) (l.y * l.fn.grid.width + l.x)

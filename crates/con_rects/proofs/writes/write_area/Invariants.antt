use Rattle.std.proofs.Common.{◌+◌, ◌*◌}
use Rattle.con_rects.specs.Parts.{rect_rule}
use Rattle.con_rects.proofs.DrawLemmas.{DoneBefore, flat}
use Rattle.con_rects.proofs.writes.write_area.Given as goal

abbrev pub invariant-loop-x : goal.invariant-loop-x
invariant-loop-x l = DoneBefore l.fn.grid l.grid (flat l.fn.grid (rect_rule l.fn.grid l.rect l.cells)) (l.y * l.fn.grid.width + l.x)

abbrev pub invariant-loop-y : goal.invariant-loop-y
invariant-loop-y l = DoneBefore l.fn.grid l.grid (flat l.fn.grid (rect_rule l.fn.grid l.rect l.cells)) (l.y * l.fn.grid.width)

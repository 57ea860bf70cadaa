use Rattle.std.proofs.Common.{◌≡◌, ◌-◌, vec_capacity}
use Rattle.con_rects.specs.Parts.{rows_part, as_read}
use Rattle.con_rects.proofs.ReadLemmas.{read_so}
use Rattle.con_rects.proofs.reads.read_area.Given as goal

abbrev pub invariant-loop-x : goal.invariant-loop-x
invariant-loop-x l = (l.out.items ≡ read_so (as_read l.grid) l.area.left l.area.right l.area.top l.x l.y) × (vec_capacity l.out ≡ vec_capacity l.fn.out)

abbrev pub invariant-loop-y : goal.invariant-loop-y
invariant-loop-y l = (l.out.items ≡ rows_part (as_read l.grid) l.area.left l.area.right l.area.top (l.y - l.area.top)) × (vec_capacity l.out ≡ vec_capacity l.fn.out)

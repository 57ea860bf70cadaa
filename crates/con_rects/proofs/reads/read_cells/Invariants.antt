use Rattle.std.proofs.Common.{◌≡◌, take, drop, vec_capacity}
use Rattle.con_rects.specs.Parts.{as_read}
use Rattle.con_rects.proofs.reads.read_cells.Given as goal

abbrev pub invariant-loop-k : goal.invariant-loop-k
invariant-loop-k l = (l.out.items ≡ take l.k (drop l.from (as_read l.grid).cells)) × (vec_capacity l.out ≡ vec_capacity l.fn.out)

use Rattle.std.proofs.Common.{replicate, ◌+◌}
use Rattle.con_rects.specs.Parts.{with_unit}
use Rattle.con_rects.proofs.DrawLemmas.{DoneBefore}
use Rattle.con_rects.proofs.RunLemmas.{run_at}
use Rattle.con_rects.proofs.runs.fill_unit.Given as goal

abbrev pub invariant-loop-k : goal.invariant-loop-k
invariant-loop-k l = DoneBefore l.fn.grid l.grid (run_at l.fn.grid l.from l.n with_unit (replicate l.n l.unit)) (l.from + l.k)

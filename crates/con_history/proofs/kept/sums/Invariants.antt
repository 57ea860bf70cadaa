-- The checksums of the blocks so far.
use Rattle.con_history.proofs.Summing.{SumsUpTo}
use Rattle.con_history.proofs.kept.sums.Given as goal

abbrev pub invariant-loop-b : goal.invariant-loop-b
invariant-loop-b l = SumsUpTo l.b l.units l.sum l.sums

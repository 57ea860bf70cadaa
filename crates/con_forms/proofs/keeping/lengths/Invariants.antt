use Rattle.std.proofs.Common.{length}
use Rattle.con_forms.specs.Kept.{EndsKeep}
use Rattle.con_forms.proofs.keeping.lengths.Given as goal

abbrev pub invariant-loop-rest : goal.invariant-loop-rest
invariant-loop-rest l = EndsKeep l.rest → EndsKeep l.coming

abbrev pub decreases-loop-rest : goal.decreases-loop-rest
decreases-loop-rest l = length l.rest

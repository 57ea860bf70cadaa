use Rattle.std.proofs.Common.{length}
use Rattle.con_forms.specs.Kept.{RepliesKeep}
use Rattle.con_forms.proofs.keeping.replies.Given as goal

abbrev pub invariant-loop-rest : goal.invariant-loop-rest
invariant-loop-rest l = RepliesKeep l.rest → RepliesKeep l.coming

abbrev pub decreases-loop-rest : goal.decreases-loop-rest
decreases-loop-rest l = length l.rest

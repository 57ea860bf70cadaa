use Rattle.std.proofs.Common.{length}
use Rattle.con_forms.specs.Kept.{EntriesKeep}
use Rattle.con_forms.proofs.keeping.entries.Given as goal

abbrev pub invariant-loop-rest : goal.invariant-loop-rest
invariant-loop-rest l = EntriesKeep l.rest → EntriesKeep l.coming

abbrev pub decreases-loop-rest : goal.decreases-loop-rest
decreases-loop-rest l = length l.rest

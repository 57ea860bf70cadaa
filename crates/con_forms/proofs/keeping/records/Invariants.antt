use Rattle.std.proofs.Common.{length}
use Rattle.con_events.specs.Words.Fits.{RecordsFit}
use Rattle.con_forms.proofs.keeping.records.Given as goal

abbrev pub invariant-loop-rest : goal.invariant-loop-rest
invariant-loop-rest l = RecordsFit l.rest → RecordsFit l.coming

abbrev pub decreases-loop-rest : goal.decreases-loop-rest
decreases-loop-rest l = length l.rest

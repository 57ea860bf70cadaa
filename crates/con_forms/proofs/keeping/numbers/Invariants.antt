use Rattle.std.proofs.Common.{length}
use Rattle.con_lines.specs.Words.Fits.{AreWhole}
use Rattle.con_forms.proofs.keeping.numbers.Given as goal

abbrev pub invariant-loop-rest : goal.invariant-loop-rest
invariant-loop-rest l = AreWhole l.rest → AreWhole l.coming

abbrev pub decreases-loop-rest : goal.decreases-loop-rest
decreases-loop-rest l = length l.rest

use Rattle.std.proofs.Common.{length}
use Rattle.con_lines.specs.Words.Fits.{AreBytes}
use Rattle.con_forms.proofs.keeping.bytes.Given as goal

abbrev pub invariant-loop-rest : goal.invariant-loop-rest
invariant-loop-rest l = AreBytes l.rest → AreBytes l.coming

abbrev pub decreases-loop-rest : goal.decreases-loop-rest
decreases-loop-rest l = length l.rest

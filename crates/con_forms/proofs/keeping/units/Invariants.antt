use Rattle.std.proofs.Common.{length}
use Rattle.con_events.specs.Fits.{AreUnits}
use Rattle.con_forms.proofs.keeping.units.Given as goal

abbrev pub invariant-loop-rest : goal.invariant-loop-rest
invariant-loop-rest l = AreUnits l.rest → AreUnits l.coming

abbrev pub decreases-loop-rest : goal.decreases-loop-rest
decreases-loop-rest l = length l.rest

use Rattle.std.proofs.Common.{length}
use Rattle.con_trace.specs.Cut.{Gathers}
use Rattle.con_trace.proofs.reading.read.Given as goal

abbrev pub invariant-report : goal.invariant-report
invariant-report l = Gathers l.bytes l.rest l.lines l.count

abbrev pub decreases-report : goal.decreases-report
decreases-report l = length l.rest

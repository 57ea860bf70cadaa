use Rattle.std.proofs.Common.{◌≤◌, length}
use Rattle.con_telling.proofs.TellLemmas.{Writes}
use Rattle.con_telling.proofs.telling.write_lines.Given as goal

abbrev pub invariant-loop-coming : goal.invariant-loop-coming
invariant-loop-coming g l = record {
  writes : Writes l.entries l.replies l.ends l.coming l.answers l.lengths (g.R.Sink.written l.initial.out) (g.R.Sink.written l.out);
  never_falls : g.R.Sink.faults l.initial.out ≤ g.R.Sink.faults l.out;
}

abbrev pub decreases-loop-coming : goal.decreases-loop-coming
decreases-loop-coming g l = length l.coming

-- What was written so far.
use Rattle.std.proofs.Common.{◌≡◌, ◌⊎◌, ◌≤◌, ℕ, true, List, Option}
use Rattle.con_outside.specs.Outside.{Rose}
use Rattle.con_pipe.specs.PipeEnds.{IsSameOut, pieces_taken}
use Rattle.con_threads.specs.Writers.{Writes}
use Rattle.con_run.proofs.work.writer.writer_work.Given as goal

abbrev pub invariant-loop : goal.invariant-loop
invariant-loop g l = record {
  pipe : IsSameOut l.initial.writer.take l.writer.take;
  wrote : (before : Option (List ℕ))
      → Writes before (g.O.Sink.written l.initial.term) (pieces_taken l.initial.writer.take) l.initial.writer.failed l.initial.writer.broken
      → Writes before (g.O.Sink.written l.term) (pieces_taken l.writer.take) l.writer.failed l.writer.broken;
  fails : l.writer.failed ≡ true → (l.initial.writer.failed ≡ true) ⊎ Rose (g.O.Sink.faults l.initial.term) (g.O.Sink.faults l.term);
  never_falls : g.O.Sink.faults l.initial.term ≤ g.O.Sink.faults l.term;
  next : (goal.iterator-loop g).can_next l.iterator';
  finite : (goal.iterator-loop g).is_finite l.iterator';
}

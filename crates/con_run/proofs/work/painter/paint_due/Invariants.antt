-- The Paints so far, none of which failed.
use Rattle.std.proofs.Common.{◌≡◌, ◌≤◌, false, Ok, Some}
use Rattle.con_threads.specs.Painters.{IsPainterThread, PaintsTo}
use Rattle.con_threads.specs.Scribe.{IsSameScribe}
use Rattle.con_run.proofs.work.painter.paint_due.Given as goal

abbrev pub invariant-loop : goal.invariant-loop
invariant-loop g l = record {
  same : IsSameScribe l.initial.painter.scribe l.painter.scribe;
  is_painter : IsPainterThread l.painter;
  whole : l.painter.broken ≡ false;
  never_falls : g.O.Sink.faults l.initial.term ≤ g.O.Sink.faults l.term;
  canvas : PaintsTo (Ok (Some false)) l.initial.painter l.painter (g.O.Sink.written l.initial.term) (g.O.Sink.written l.term);
  next : (goal.iterator-loop g).can_next l.iterator';
  finite : (goal.iterator-loop g).is_finite l.iterator';
}

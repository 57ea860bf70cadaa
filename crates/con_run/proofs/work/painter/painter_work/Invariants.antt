-- The pieces so far.
use Rattle.std.proofs.Common.{◌≡◌, false}
use Rattle.con_pipe.specs.PipeEnds.{is_finished}
use Rattle.con_threads.specs.Painters.{HasDrawn}
use Rattle.con_run.proofs.work.painter.painter_work.Given as goal

abbrev pub invariant-loop : goal.invariant-loop
invariant-loop g l = record {
  drawn : HasDrawn l.initial.painter l.painter l.initial.put l.put;
  unfinished : is_finished l.put ≡ false;
  next : (goal.iterator-loop g).can_next l.iterator';
  finite : (goal.iterator-loop g).is_finite l.iterator';
}

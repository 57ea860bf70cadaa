-- It has sent on so far.
use Rattle.std.proofs.Common.{◌≡◌, ◌⊎◌, ◌≤◌}
use Rattle.con_outside.specs.Outside.{Rose}
use Rattle.con_events.specs.declared.end.End.TheVariants as ends
use Rattle.con_threads.specs.Sides.{HasSentOn}
use Rattle.con_run.proofs.work.side.send_all.Given as goal

abbrev pub invariant-loop : goal.invariant-loop
invariant-loop g l = record {
  on : HasSentOn l.fn.side l.side (g.I.Source.left l.fn.link) (g.I.Source.left l.link);
  failed : l.side.side.end ≡ ends.Link → (l.fn.side.side.end ≡ ends.Link) ⊎ Rose (g.I.Source.faults l.fn.link) (g.I.Source.faults l.link);
  never_falls : g.I.Source.faults l.fn.link ≤ g.I.Source.faults l.link;
  can_next : (goal.iterator-loop g).can_next l.iterator';
  is_finite : (goal.iterator-loop g).is_finite l.iterator';
}

use Rattle.std.proofs.Common.{◌≡◌, ◌+◌, ◌-◌, ◌≤◌, length}
use Rattle.con_outside.specs.Outside.{then_left}
use Rattle.con_outside.proofs.reading.read_whole.Given as goal

abbrev pub invariant-loop-piece : goal.invariant-loop-piece
invariant-loop-piece g l = record {
  few : length l.out.items ≤ 16777216 + 4096;
  taken : g.I.Source.left l.initial.source ≡ then_left l.out.items (g.I.Source.left l.source);
  never_falls : g.I.Source.faults l.initial.source ≤ g.I.Source.faults l.source;
}

abbrev pub decreases-loop-piece : goal.decreases-loop-piece
decreases-loop-piece g l = 16777217 - length l.out.items

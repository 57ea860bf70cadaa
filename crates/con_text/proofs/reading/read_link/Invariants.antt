use Rattle.std.proofs.Common.{◌≡◌, ◌≤◌, ◌+◌, ◌-◌, List, ℕ, length}
use Rattle.con_outside.specs.Outside.{then_left}
use Rattle.con_text.proofs.reading.read_link.Given as goal

abbrev pub invariant-loop-total : goal.invariant-loop-total
invariant-loop-total g l = record {
  few : l.total ≤ 16777216 + 4096;
  taken : (text : List ℕ) × (g.I.Source.left l.initial.link ≡ then_left text (g.I.Source.left l.link)) × (g.L.Listener.became l.initial.listener text l.listener) × (length text ≡ l.total);
  never_falls : g.I.Source.faults l.initial.link ≤ g.I.Source.faults l.link;
}

abbrev pub decreases-loop-total : goal.decreases-loop-total
decreases-loop-total g l = 16777217 - l.total

use Rattle.std.proofs.Common.{◌≡◌, drop}
use Rattle.con_events.specs.Names.{looked_up}
use Rattle.con_events.proofs.names.look_up.Given as goal

abbrev pub invariant-loop-at : goal.invariant-loop-at
invariant-loop-at l = looked_up l.wanted (drop l.at l.names) ≡ looked_up l.wanted l.names

use Rattle.std.proofs.Common.{◌≡◌, ◌++◌}
use Rattle.con_script.specs.Draws.{units_drawn}
use Rattle.con_script.proofs.draws.units_of_draws.Given as goal

abbrev pub invariant-loop-more : goal.invariant-loop-more
invariant-loop-more l = record {
  made : l.units.items ++ (units_drawn l.more l.draws.state).made ≡ (units_drawn l.count l.initial.draws.state).made;
  left : (units_drawn l.more l.draws.state).left ≡ (units_drawn l.count l.initial.draws.state).left;
}

abbrev pub decreases-loop-more : goal.decreases-loop-more
decreases-loop-more l = l.more

use Rattle.std.proofs.Common.{◌≡◌, ◌++◌}
use Rattle.con_script.specs.Draws.{steps_drawn}
use Rattle.con_script.proofs.generator.push_steps.Given as goal

abbrev pub invariant-loop-more : goal.invariant-loop-more
invariant-loop-more l = record {
  made : l.steps.items ++ (steps_drawn l.more l.draws.state).made ≡ l.initial.steps.items ++ (steps_drawn l.count l.initial.draws.state).made;
  left : (steps_drawn l.more l.draws.state).left ≡ (steps_drawn l.count l.initial.draws.state).left;
}

abbrev pub decreases-loop-more : goal.decreases-loop-more
decreases-loop-more l = l.more

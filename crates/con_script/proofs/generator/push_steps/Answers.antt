use borrow.Author.Count.{falls_down}
use Rattle.con_script.proofs.GeneratedLemmas.{more_steps, steps_left, all_steps, end_of_steps}
use Rattle.con_script.proofs.generator.push_steps.Goals as goal

pub loop-more-preserved : goal.loop-more-preserved
loop-more-preserved c = record {
  made = more_steps c.loop-more.steps.items c.push_step.new.steps.items _ c.loop-more.more c.loop-more.draws.state c.push_step.new.draws.state
      c.loop-more-test.true c.in-Ok.ensures.made c.in-Ok.ensures.left c.loop-more.invariant.made;
  left = steps_left c.loop-more.more c.loop-more.draws.state c.push_step.new.draws.state _ c.loop-more-test.true c.in-Ok.ensures.left c.loop-more.invariant.left;
}

pub returns-clause-made : goal.returns-clause-made
returns-clause-made c = all_steps c.loop-more.steps.items _ c.loop-more.more c.loop-more.draws.state c.loop-more-test.false c.loop-more.invariant.made

pub returns-clause-left : goal.returns-clause-left
returns-clause-left c = end_of_steps c.loop-more.more c.loop-more.draws.state _ c.loop-more-test.false c.loop-more.invariant.left

pub loop-more-smaller : goal.loop-more-smaller
loop-more-smaller c = falls_down c.loop-more.more c.loop-more-test.true

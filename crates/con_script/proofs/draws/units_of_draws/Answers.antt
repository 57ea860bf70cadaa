use borrow.Author.Count.{falls_down}
use Rattle.con_script.proofs.GeneratedLemmas.{more_units, units_left, all_units, end_of_units}
use Rattle.con_script.proofs.draws.units_of_draws.Goals as goal

pub loop-more-preserved : goal.loop-more-preserved
loop-more-preserved c = record {
  made = more_units c.loop-more.units.items c.push.new.self.items _ c.loop-more.more c.loop-more.draws.state c.draw.new.draws.state c.draw.result c.loop-more-test.true c.in-Ok.ensures.items c.draw.ensures.value c.draw.ensures.state c.loop-more.invariant.made;
  left = units_left c.loop-more.more c.loop-more.draws.state c.draw.new.draws.state _ c.loop-more-test.true c.draw.ensures.state c.loop-more.invariant.left;
}

pub returns-clause-made : goal.returns-clause-made
returns-clause-made c = all_units c.loop-more.units.items _ c.loop-more.more c.loop-more.draws.state c.loop-more-test.false c.loop-more.invariant.made

pub returns-clause-left : goal.returns-clause-left
returns-clause-left c = end_of_units c.loop-more.more c.loop-more.draws.state _ c.loop-more-test.false c.loop-more.invariant.left

pub loop-more-smaller : goal.loop-more-smaller
loop-more-smaller c = falls_down c.loop-more.more c.loop-more-test.true

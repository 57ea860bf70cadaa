use Rattle.std.proofs.Common.{length}
use borrow.Author.Count.{falls}
use Rattle.con_script.proofs.ListLemmas.{units_on, all_units, no_units}
use Rattle.con_script.proofs.lists.units_in.Goals as goal

pub loop-item-init : goal.loop-item-init
loop-item-init c = no_units c.new-units.result.items _ c.new-units.ensures.items

pub loop-item-preserved : goal.loop-item-preserved
loop-item-preserved c =
    units_on c.args.items.now c.loop-item.item-index c.item-item.result c.loop-item.units.items c.push.new.self.items c.in-Some.u _
    c.loop-item.invariant c.loop-item-test.true c.item-item.is c.in-Some.ensures c.in-Ok.ensures.items

pub returns-clause-ok : goal.returns-clause-ok
returns-clause-ok c = all_units c.args.items.now c.loop-item.item-index c.loop-item.units.items _ c.loop-item.invariant c.loop-item-test.false

pub loop-item-smaller : goal.loop-item-smaller
loop-item-smaller c = falls (length c.args.items.now) c.loop-item.item-index c.loop-item-test.true

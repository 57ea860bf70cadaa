use Rattle.std.proofs.Common.{refl, ◌∙◌}
use Rattle.con_grid.proofs.StampLemmas.{whole}
use Rattle.con_grid.proofs.RingLemmas.{units_spot}
use Rattle.con_grid.proofs.ring.plain_run.Goals as goal

pub returns-clause-cells : goal.returns-clause-cells
returns-clause-cells c =
    let now = whole c.args.block.now.len c.args.block.now.items c.put_plain.new.cells (c.put_plain.auto.cells ∙ c.deref_mut.ensures.len) in
    let is = rw c.deref_mut.ensures.value at c.put_plain.ensures in
    rw (now, is) (units_spot c.args.block.now.items _ c.args.top c.args.at c.spot-from.result c.args.units.now c.args.attr c.spot-from.ensures refl)

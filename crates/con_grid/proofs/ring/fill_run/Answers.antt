use Rattle.std.proofs.Common.{refl, ◌∙◌}
use Rattle.con_grid.proofs.StampLemmas.{whole}
use Rattle.con_grid.proofs.RingLemmas.{fill_spot}
use Rattle.con_grid.proofs.ring.fill_run.Goals as goal

pub returns-clause-cells : goal.returns-clause-cells
returns-clause-cells c =
    let now = whole c.args.block.now.len c.args.block.now.items c.fill.new.cells (c.fill.auto.cells ∙ c.deref_mut.ensures.len) in
    let is = rw c.deref_mut.ensures.value at c.fill.ensures in
    rw (now, is) (fill_spot c.args.block.now.items _ c.args.top c.args.from c.args.upto c.spot-at.result c.args.cell c.spot-at.ensures refl)

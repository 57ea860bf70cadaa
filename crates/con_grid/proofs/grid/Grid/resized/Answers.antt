use Rattle.std.proofs.Common.{◌≡◌, ◌*◌, length, ap, ◌∙◌}
use Rattle.std.proofs.lemmas.List.{length-replicate}
use Rattle.con_grid.proofs.StampLemmas.{whole}
use Rattle.con_grid.proofs.RingLemmas.{made_same}
use Rattle.con_grid.proofs.ResizedLemmas.{resized_cell}
use Rattle.con_grid.proofs.grid.Grid.resized.Goals as goal

pub returns-clause-grid : goal.returns-clause-grid
returns-clause-grid c =
    let long : length c.deref_mut.result.now ≡ c.args.size.w * c.args.size.h = ap length (c.deref_mut.ensures.value ∙ c.in_ok-block.ensures) ∙ length-replicate _ _ in
    let now = whole c.in_ok-block.block.len c.in_ok-block.block.items c.copy_cells.new.cells (c.copy_cells.auto.cells ∙ c.deref_mut.ensures.len) in
    rw (← c.self.view_is) (made_same c.in_ok-grid.grid c.args.size.w c.args.size.h _ _ _ _ c.in_ok-grid.ensures.grid c.now-number.ensures (c.of.ensures ∙ now ∙ c.copy_cells.ensures c.args.size.h long))

pub returns-clause-cells : goal.returns-clause-cells
returns-clause-cells c = λ x y x_in y_in.
    let long : length c.deref_mut.result.now ≡ c.args.size.w * c.args.size.h = ap length (c.deref_mut.ensures.value ∙ c.in_ok-block.ensures) ∙ length-replicate _ _ in
    let now = whole c.in_ok-block.block.len c.in_ok-block.block.items c.copy_cells.new.cells (c.copy_cells.auto.cells ∙ c.deref_mut.ensures.len) in
    let is = c.of.ensures ∙ now ∙ c.copy_cells.ensures c.args.size.h long in
    rw (← c.self.view_is, c.in_ok-grid.ensures.grid, is) (resized_cell c.self.inside.cells c.self.inside.width c.args.size.w c.args.size.h c.args.lost x y c.args.cell c.requires.some.0 x_in y_in)
